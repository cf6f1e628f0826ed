use Rattle.std.proofs.Common.{◌+◌, ◌≤◌, rules, arith}
use Rattle.std.proofs.lemmas.List.Sums.{sum_by-take-le}
use Rattle.joint_partition.proofs.Factors.{group-light, next-light, weight_where}
use Rattle.joint_partition.proofs.numbers.weight_in.Goals as goal

pub overflow_add-sum : goal.overflow_add-sum
overflow_add-sum c =
    let few : c.loop-family.sum + c.family-item.result.weight ≤ 16 =
    omega (arith, next-light c.args.families.now c.args.number c.loop-family.family-index c.family-item.result c.loop-family-test.true c.family-item.is, c.loop-family.invariant, c.requires) in
    search rules

pub returns-clause-light : goal.returns-clause-light
returns-clause-light c =
    omega (
      arith,
      c.loop-family.invariant,
      sum_by-take-le (weight_where c.args.number) c.args.families.now c.loop-family.family-index,
      group-light c.args.families.now c.args.number,
      c.requires,
    )
