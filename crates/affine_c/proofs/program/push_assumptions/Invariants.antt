use Rattle.std.proofs.Common.{◌≡◌, ◌++◌, drop}
use Rattle.std.specs.Prelude.{flat_map}
use Rattle.affine_c.specs.Text.{assumption_pragma}
use Rattle.affine_c.proofs.program.push_assumptions.Given as goal

abbrev pub invariant-loop-row : goal.invariant-loop-row
invariant-loop-row l = l.text.items ++ flat_map (assumption_pragma l.names) (drop l.row-index l.rows) ≡ l.initial.text.items ++ flat_map (assumption_pragma l.names) l.rows
