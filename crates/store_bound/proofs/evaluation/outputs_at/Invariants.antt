use Rattle.std.proofs.Common.{◌≡◌, ◌≤◌, ◌+◌, min, drop}
use Rattle.iolb_model.specs.declared.limits.TheConstants.{MEASURE}
use Rattle.store_bound.specs.Values.{HasWideCount, output_value}
use Rattle.store_bound.proofs.evaluation.outputs_at.Given as goal

abbrev pub invariant-loop-count : goal.invariant-loop-count
invariant-loop-count l = record {
  low : l.total ≤ MEASURE;
  sum : min (l.total + output_value (drop l.count-index l.counts) l.point) MEASURE ≡ min (output_value l.counts l.point) MEASURE;
  wide : HasWideCount l.point (drop l.count-index l.counts) → HasWideCount l.point l.counts;
  narrow : (HasWideCount l.point (drop l.count-index l.counts) → ⊥) → HasWideCount l.point l.counts → ⊥;
}
