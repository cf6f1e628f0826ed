use Rattle.std.proofs.Common.{◌≡◌, ◌*◌, ◌^◌, drop}
use Rattle.uniform_cover.specs.Products.{product_by}
use Rattle.reuse_paths.specs.declared.family.Family.{Family}
use Rattle.k_partition.proofs.bound.powers_of.Given as goal

abbrev pub invariant-loop-family : goal.invariant-loop-family
invariant-loop-family l = (l.product * product_by (λ (f : Family). f.weight ^ f.weight) (drop l.family-index l.families)) ≡ product_by (λ (f : Family). f.weight ^ f.weight) l.families
