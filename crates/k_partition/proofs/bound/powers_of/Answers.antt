use Rattle.std.proofs.Common.{◌≤◌, ◌*◌, rules}
use Rattle.k_partition.proofs.OwnPowers.{greatest, powers-most, powers-next}
use Rattle.k_partition.proofs.bound.powers_of.Goals as goal

pub overflow_mul-product : goal.overflow_mul-product
overflow_mul-product c =
    let next = powers-next c.args.families.now c.loop-family.family-index c.family-item.result c.loop-family.product c.own_power-product.result c.loop-family-test.true c.family-item.is
    c.own_power-product.ensures c.loop-family.invariant in
    let few : c.loop-family.product * c.own_power-product.result ≤ greatest =
    powers-most c.args.families.now _ (c.loop-family.product * c.own_power-product.result) c.requires next in
    search rules

pub loop-family-preserved : goal.loop-family-preserved
loop-family-preserved c =
    powers-next c.args.families.now c.loop-family.family-index c.family-item.result c.loop-family.product c.own_power-product.result c.loop-family-test.true c.family-item.is
    c.own_power-product.ensures c.loop-family.invariant
