use Rattle.std.proofs.Common.{◌≡◌, ◌≤◌, ◌+◌, min, drop}
use Rattle.iolb_model.specs.Bound.{branch_value}
use Rattle.iolb_check.specs.Bounds.{HasWideTerm, terms_of}
use Rattle.iolb_check.proofs.evaluation.branch_sum.Given as goal
use Rattle.iolb_model.specs.declared.limits.TheConstants.{MEASURE}

abbrev pub invariant-loop-term : goal.invariant-loop-term
invariant-loop-term l = record {
  low : l.total ≤ MEASURE;
  sum : min (l.total + branch_value (terms_of (drop l.term-index l.terms)) l.point l.s) MEASURE ≡ min (branch_value (terms_of l.terms) l.point l.s) MEASURE;
  wide : HasWideTerm l.point l.s (drop l.term-index l.terms) → HasWideTerm l.point l.s l.terms;
  narrow : (HasWideTerm l.point l.s (drop l.term-index l.terms) → ⊥) → HasWideTerm l.point l.s l.terms → ⊥;
}
