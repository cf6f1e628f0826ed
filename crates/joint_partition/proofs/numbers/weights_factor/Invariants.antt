use Rattle.std.proofs.Common.{◌≡◌}
use Rattle.std.specs.List.{range_with_len}
use Rattle.uniform_cover.specs.Products.{product_by}
use Rattle.joint_partition.proofs.Factors.{own_weight}
use Rattle.joint_partition.proofs.numbers.weights_factor.Given as goal

abbrev pub invariant-loop-number : goal.invariant-loop-number
invariant-loop-number l = l.product ≡ product_by (own_weight l.families) (range_with_len 0 l.number)
