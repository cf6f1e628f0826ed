use Rattle.std.proofs.Common.{◌≡◌, ◌+◌, ◌≤◌, drop, sum_by}
use Rattle.joint_partition.specs.declared.limits.TheConstants.{JOINT_WEIGHTS}
use Rattle.joint_partition.specs.declared.term.JointFamily.{JointFamily as Family}
use Rattle.joint_partition.proofs.small.are_light.Given as goal

abbrev pub invariant-loop-family : goal.invariant-loop-family
invariant-loop-family l = record {
  left : l.left ≤ JOINT_WEIGHTS;
  sum : sum_by (λ (f : Family). f.weight) (drop l.family-index l.families) + JOINT_WEIGHTS ≡ sum_by (λ (f : Family). f.weight) l.families + l.left;
}
