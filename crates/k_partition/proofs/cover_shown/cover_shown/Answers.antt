use Rattle.std.specs.Prelude.{codes}
use Rattle.std.proofs.Common.{◌≡◌, List, ap, subst, ℕ, ◌<◌, ◌≤◌, ◌++◌, ◌∷◌, [], length, rules, arith}
use Rattle.claims.specs.declared.place.Step.{Step}
use Rattle.claims.proofs.Found.{refused-here}
use Rattle.claims.specs.Claims.{IsRefusalAt}
use Rattle.claims.specs.declared.place.Step.TheVariants.{Index, Key}
use Rattle.claims.proofs.Members.{counts-refused, counts-hold}
use Rattle.k_partition.specs.PartitionClaims.{cover_claim, weight_at}
use Rattle.k_partition.specs.View.{partition_of}
use Rattle.k_partition.proofs.cover_shown.cover_shown.Goals as goal

pub returns-then-weight_at-term : goal.returns-then-weight_at-term
returns-then-weight_at-term c =
    let term = partition_of c.args.term.now in
    let place = c.args.place.now in
    let i : ℕ = c.loop-i.i in
    let below : i < length term.nest = omega (arith, c.loop-i-test.true, ap length c.bounds-size.ensures) in
    let is : c.weight_at.result ≡ weight_at term.families i = search rules in
    counts-refused (cover_claim place term) (length term.nest) i c.refusal.result below c.loop-i.invariant
    (refused-here (record { condition = 17; place = place ++ Key (codes "matrix") ∷ Index i ∷ []; statement = term.q ≤ weight_at term.families i }) [] c.refusal.result
    (λ (h : term.q ≤ weight_at term.families i). omega (arith, h, is, c.if-weight_at-term.true))
    (subst (λ (p : List Step). IsRefusalAt 17 p c.refusal.result) c.in_ok-row.ensures c.refusal.ensures))

pub returns : goal.returns
returns c =
    let term = partition_of c.args.term.now in
    counts-hold (cover_claim c.args.place.now term) (length term.nest) (λ k less. c.loop-i.invariant k (omega (arith, less, c.loop-i-test.false, ap length c.bounds-size.ensures)))
