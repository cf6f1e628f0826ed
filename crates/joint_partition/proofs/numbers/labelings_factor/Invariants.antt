use Rattle.std.proofs.Common.{◌≡◌, take}
use Rattle.uniform_cover.specs.Products.{product_by}
use Rattle.joint_partition.proofs.Factors.{labelings_power}
use Rattle.joint_partition.proofs.numbers.labelings_factor.Given as goal

abbrev pub invariant-loop-family : goal.invariant-loop-family
invariant-loop-family l = l.product ≡ product_by labelings_power (take l.family-index l.families)
