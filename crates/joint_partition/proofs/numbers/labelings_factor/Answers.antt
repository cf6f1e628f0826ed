use Rattle.std.proofs.Common.{◌≡◌, ◌+◌, ◌*◌, ◌≤◌, take, rules, arith}
use Rattle.uniform_cover.specs.Products.{product_by}
use Rattle.joint_partition.proofs.Factors.{labelings-fit, labelings-next, labelings_power}
use Rattle.joint_partition.proofs.numbers.labelings_factor.Goals as goal

pub overflow_mul-product : goal.overflow_mul-product
overflow_mul-product c =
    let next : c.loop-family.product * c.labelings_power-product.result ≡ product_by labelings_power (take (c.loop-family.family-index + 1) c.args.families.now) =
    labelings-next c.args.families.now c.loop-family.family-index c.family-item.result c.loop-family.product c.labelings_power-product.result c.loop-family-test.true c.family-item.is
    c.loop-family.invariant c.labelings_power-product.ensures in
    let few : c.loop-family.product * c.labelings_power-product.result ≤ 4294967296 =
    omega (arith, next, labelings-fit c.args.families.now (c.loop-family.family-index + 1) c.requires.light c.requires.few) in
    search rules

pub loop-family-preserved : goal.loop-family-preserved
loop-family-preserved c =
    labelings-next c.args.families.now c.loop-family.family-index c.family-item.result c.loop-family.product c.labelings_power-product.result c.loop-family-test.true c.family-item.is
    c.loop-family.invariant c.labelings_power-product.ensures
