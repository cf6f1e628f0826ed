use Rattle.std.proofs.Common.{◌≡◌, ◌+◌, ◌*◌, ◌≤◌, rules, arith}
use Rattle.std.specs.List.{range_with_len}
use Rattle.uniform_cover.specs.Products.{product_by}
use Rattle.joint_partition.proofs.Factors.{own_weight, powers-fit, range-next}
use Rattle.joint_partition.proofs.numbers.weights_factor.Goals as goal

pub overflow_mul-product : goal.overflow_mul-product
overflow_mul-product c =
    let next : c.loop-number.product * c.own_power-product.result ≡ product_by (own_weight c.args.families.now) (range_with_len 0 (c.loop-number.number + 1)) =
    range-next c.args.families.now c.loop-number.number c.loop-number.product c.weight_in.result c.own_power-product.result c.loop-number.invariant c.weight_in.ensures.sum c.own_power-product.ensures in
    let few : c.loop-number.product * c.own_power-product.result ≤ 18446744073709551616 =
    omega (arith, next, powers-fit c.args.families.now (c.loop-number.number + 1) c.requires) in
    search rules

pub loop-number-preserved : goal.loop-number-preserved
loop-number-preserved c =
    range-next c.args.families.now c.loop-number.number c.loop-number.product c.weight_in.result c.own_power-product.result c.loop-number.invariant c.weight_in.ensures.sum c.own_power-product.ensures
