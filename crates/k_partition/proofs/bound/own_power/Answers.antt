use Rattle.std.proofs.Common.{◌≡◌, ◌≤◌, ◌*◌, ◌∙◌, ap, ℕ, rules, arith}
use Rattle.k_partition.proofs.OwnPowers.{greatest, next-most, next-power}
use Rattle.k_partition.proofs.bound.own_power.Goals as goal

pub overflow_mul-power : goal.overflow_mul-power
overflow_mul-power c =
    let few : c.loop-i.power * c.args.n ≤ greatest = next-most c.args.n c.loop-i._i c.loop-i.power c.requires c.loop-i-test.true c.loop-i.invariant in
    let same : c.loop-i.power * c.from-power.result ≡ c.loop-i.power * c.args.n = ap (λ (n : ℕ). c.loop-i.power * n) c.from-power.ensures in
    let fits : c.loop-i.power * c.from-power.result ≤ greatest = omega (arith, few, same) in
    search rules

pub loop-i-preserved : goal.loop-i-preserved
loop-i-preserved c =
    ap (λ (n : ℕ). c.loop-i.power * n) c.from-power.ensures ∙ next-power c.args.n c.loop-i._i c.loop-i.power c.loop-i.invariant
