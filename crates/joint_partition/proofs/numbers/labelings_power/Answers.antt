use Rattle.std.proofs.Common.{◌≡◌, ◌≤◌, length, rules, arith}
use Rattle.joint_partition.proofs.Factors.{labelings-small}
use Rattle.joint_partition.proofs.numbers.labelings_power.Goals as goal

pub pow-requires : goal.pow-requires
pow-requires c =
    let size : c.len-size.result ≡ length c.args.family.now.labels.items = search rules in
    let few : c.len-size.result ≤ 4 = omega (arith, size, c.requires.few) in
    let light : c.from.result ≤ 16 = omega (arith, c.from.ensures, c.requires.light) in
    omega (arith, labelings-small c.len-size.result c.from.result few light)
