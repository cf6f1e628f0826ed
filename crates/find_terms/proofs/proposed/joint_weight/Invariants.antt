use Rattle.std.proofs.Common.{◌≡◌, ◌+◌, drop, sum_by}
use Rattle.joint_partition.specs.declared.term.JointFamily.{JointFamily as Family}
use Rattle.find_terms.proofs.proposed.joint_weight.Given as goal

abbrev pub invariant-loop-family : goal.invariant-loop-family
invariant-loop-family l = (l.sum + sum_by (λ (f : Family). f.weight) (drop l.family-index l.families)) ≡ sum_by (λ (f : Family). f.weight) l.families
