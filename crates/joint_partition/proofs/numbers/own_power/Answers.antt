use Rattle.std.proofs.Common.{◌≡◌, ◌∙◌, ap, ℕ, ◌^◌, ◌≤◌, arith}
use Rattle.joint_partition.proofs.Factors.{own-most}
use Rattle.joint_partition.proofs.numbers.own_power.Goals as goal

pub pow-requires : goal.pow-requires
pow-requires c =
    let same : c.from.result ^ c.from-2.result ≡ c.args.n ^ c.args.n = ap (λ (m : ℕ). m ^ c.from-2.result) c.from.ensures ∙ ap (λ (m : ℕ). c.args.n ^ m) c.from-2.ensures in
    let few : c.args.n ^ c.args.n ≤ 18446744073709551616 = own-most c.args.n c.requires in
    omega (arith, same, few)
