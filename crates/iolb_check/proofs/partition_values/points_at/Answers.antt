use Rattle.std.proofs.Common.{◌≡◌, ◌∙◌, ap, subst, ℕ, ◌+◌, ◌*◌, ◌^◌}
use Rattle.iolb_model.specs.Bound.{labels_of, points_of}
use Rattle.uniform_cover.specs.Greatest.{IsGreatest}
use Rattle.k_partition.proofs.GreatestUpTo.{greatest-is, greatest-one}
use Rattle.k_partition.specs.Numbers.{numbers_of}
use Rattle.iolb_check.proofs.partition_values.points_at.Goals as goal

pub returns-in-Ok-clause-value : goal.returns-in-Ok-clause-value
returns-in-Ok-clause-value c =
    let bound = c.args.bound.now in
    let top : ℕ = labels_of (numbers_of bound) c.args.s in
    let found : ℕ = bound.num * (c.from.result + c.args.events) ^ c.from-m.result in
    let same : found ≡ top =
    ap (λ (n : ℕ). bound.num * (n + c.args.events) ^ c.from-m.result) c.from.ensures ∙ ap (λ (n : ℕ). bound.num * (c.args.s + n) ^ c.from-m.result) c.requires.are
    ∙ ap (λ (n : ℕ). bound.num * (c.args.s + (bound.a * c.args.s + bound.b)) ^ n) c.from-m.ensures in
    let is : IsGreatest bound.q bound.den top c.in-Ok.most =
    subst (λ (n : ℕ). IsGreatest n bound.den top c.in-Ok.most) c.from-q.ensures
    (subst (λ (n : ℕ). IsGreatest c.from-q.result bound.den n c.in-Ok.most) same c.in-Ok.ensures.greatest) in
    greatest-one bound.q bound.den top c.in-Ok.most (points_of (numbers_of bound) c.args.s) is (greatest-is bound.q bound.den top c.requires.some_q c.requires.some_den)
