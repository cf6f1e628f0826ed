use Rattle.std.proofs.Common.{◌≡◌, ◌+◌, drop, sum_by}
use Rattle.reuse_paths.specs.declared.family.Family.{Family}
use Rattle.k_partition.proofs.Weights.{weight_in}
use Rattle.k_partition.proofs.cover_shown.weight_at.Given as goal

abbrev pub invariant-loop-family : goal.invariant-loop-family
invariant-loop-family l = (l.sum + sum_by (weight_in (λ (f : Family). f.set) (λ (f : Family). f.weight) l.coordinate) (drop l.family-index l.families)) ≡ sum_by (weight_in (λ (f : Family). f.set) (λ (f : Family). f.weight) l.coordinate) l.families
