use Rattle.std.specs.Prelude.{codes}
use Rattle.std.proofs.Common.{◌≡◌, List, subst, ℕ, ◌<◌, ◌≤◌, ◌++◌, ◌∷◌, [], rules, arith}
use Rattle.claims.specs.declared.place.Step.{Step}
use Rattle.claims.proofs.Found.{refused-here}
use Rattle.claims.specs.Claims.{IsRefusalAt}
use Rattle.claims.specs.declared.place.Step.TheVariants.{Index, Key}
use Rattle.claims.proofs.Members.{counts-refused, counts-hold}
use Rattle.joint_partition.specs.Claims.{cover_claim, weight_at}
use Rattle.joint_partition.specs.JointWords.{dimensions_of}
use Rattle.joint_partition.specs.View.{joint_of}
use Rattle.joint_partition.proofs.cover_shown.cover_shown.Goals as goal

pub returns-then-weight_at-term : goal.returns-then-weight_at-term
returns-then-weight_at-term c =
    let term = joint_of c.args.term.now in
    let place = c.args.place.now in
    let i : ℕ = c.loop-i.i in
    let below : i < dimensions_of term = omega (arith, c.loop-i-test.true, c.dimensions_of-size.ensures) in
    let is : c.weight_at.result ≡ weight_at term.families i = search rules in
    counts-refused (cover_claim place term) (dimensions_of term) i c.refusal.result below c.loop-i.invariant
    (refused-here (record { condition = 17; place = place ++ Key (codes "parts") ∷ Index 0 ∷ Key (codes "map") ∷ Index i ∷ []; statement = term.q ≤ weight_at term.families i }) [] c.refusal.result
    (λ (h : term.q ≤ weight_at term.families i). omega (arith, h, is, c.if-weight_at-term.true))
    (subst (λ (p : List Step). IsRefusalAt 17 p c.refusal.result) c.in_ok-coordinate.ensures c.refusal.ensures))

pub returns : goal.returns
returns c =
    let term = joint_of c.args.term.now in
    counts-hold (cover_claim c.args.place.now term) (dimensions_of term) (λ k less. c.loop-i.invariant k (omega (arith, less, c.loop-i-test.false, c.dimensions_of-size.ensures)))
