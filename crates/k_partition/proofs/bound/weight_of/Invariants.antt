use Rattle.std.proofs.Common.{◌≡◌, ◌+◌, drop, sum_by}
use Rattle.reuse_paths.specs.declared.family.Family.{Family}
use Rattle.k_partition.proofs.bound.weight_of.Given as goal

abbrev pub invariant-loop-family : goal.invariant-loop-family
invariant-loop-family l = (l.sum + sum_by (λ (f : Family). f.weight) (drop l.family-index l.families)) ≡ sum_by (λ (f : Family). f.weight) l.families
