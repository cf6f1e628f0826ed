use Rattle.std.proofs.Common.{◌≡◌, ◌≤◌, ◌+◌, min, drop, map}
use Rattle.iolb_check.specs.Bounds.{HasWideTerm, terms_of}
use Rattle.iolb_check.specs.Claims.{claim_of_term}
use Rattle.iolb_model.specs.Bound.{branch_value}
use Rattle.iolb_model.specs.declared.limits.TheConstants.{MEASURE}
use Rattle.store_bound.specs.Counted.{computed_values}
use Rattle.store_bound.specs.Values.{HaveWordValues}
use Rattle.store_bound.proofs.evaluation.words_at.Given as goal

abbrev pub invariant-loop-i : goal.invariant-loop-i
invariant-loop-i l = record {
  low : l.total ≤ MEASURE;
  valued : HaveWordValues (map claim_of_term (drop l.i l.terms)) (drop l.i l.values);
  sum : min (l.total + branch_value (terms_of (computed_values (map claim_of_term (drop l.i l.terms)) (drop l.i l.values))) l.point l.s) MEASURE
      ≡ min (branch_value (terms_of (computed_values (map claim_of_term l.terms) l.values)) l.point l.s) MEASURE;
  wide : HasWideTerm l.point l.s (drop l.i l.values) → HasWideTerm l.point l.s l.values;
}
