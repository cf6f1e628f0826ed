use Rattle.std.proofs.Common.{ℕ, ◌+◌, drop}
use Rattle.iolb_model.specs.Bound.{AreMet}
use Rattle.affine_program.specs.Assumptions.{IsFirstUnmet}
use Rattle.affine_program.proofs.assumptions.first_unmet.Given as goal

abbrev pub invariant-loop-number : goal.invariant-loop-number
invariant-loop-number l = record {
  met : AreMet (drop l.number l.rows) l.point → AreMet l.rows l.point;
  unmet : (k : ℕ) → IsFirstUnmet (drop l.number l.rows) l.point k → IsFirstUnmet l.rows l.point (l.number + k);
}
