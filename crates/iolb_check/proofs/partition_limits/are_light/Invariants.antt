use Rattle.std.proofs.Common.{◌≡◌, ◌+◌, ◌≤◌, drop, sum_by}
use Rattle.iolb_model.specs.declared.limits.TheConstants.{WEIGHTS}
use Rattle.reuse_paths.specs.declared.family.Family.{Family}
use Rattle.iolb_check.proofs.partition_limits.are_light.Given as goal

abbrev pub invariant-loop-family : goal.invariant-loop-family
invariant-loop-family l = record {
  left : l.left ≤ WEIGHTS;
  sum : sum_by (λ (f : Family). f.weight) (drop l.family-index l.families) + WEIGHTS ≡ sum_by (λ (f : Family). f.weight) l.families + l.left;
}
