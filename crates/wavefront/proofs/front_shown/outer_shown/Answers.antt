use Rattle.std.proofs.Common.{◌≡◌, ◌∙◌, ap, subst, true, ℕ, ◌+◌, ◌<◌, ◌++◌, ◌∷◌, [], List, length, get_or, arith}
use Rattle.std.specs.Prelude.{Ok, Err, codes}
use Rattle.std.proofs.lemmas.List.{drop_all}
use Rattle.iolb_model.specs.Form.{AffineForm}
use Rattle.claims.specs.Claims.{AllHold, IsRefusal, IsRefusalAt, numbered}
use Rattle.claims.specs.declared.place.Step.{Step}
use Rattle.claims.specs.declared.place.Step.TheVariants.{Index, Key}
use Rattle.claims.proofs.Found.{refused-here}
use Rattle.claims.proofs.Members.{numbered-ended, numbered-stop}
use Rattle.wavefront.specs.FrontClaims.{outer_claim, IsWithoutPast}
use Rattle.wavefront.proofs.front_shown.outer_shown.Goals as goal

pub returns-then-not-is_without : goal.returns-then-not-is_without
returns-then-not-is_without c =
    let forms : List AffineForm = c.args.term.now.vertex.point.items in
    let first : ℕ = length c.params.result.now + c.from.result in
    let place : List Step = c.args.place.now in
    let i : ℕ = c.loop-i.i in
    let form : AffineForm = c.form-item.result in
    let r = c.refusal.result in
    let below : i < length forms = omega (arith, c.loop-i-test.true, ap length c.deref-form-items.ensures.value) in
    let is : form ≡ get_or forms i form = subst (λ (fs : List AffineForm). form ≡ get_or fs i form) c.deref-form-items.ensures.value c.form-item.is in
    subst (λ (n : ℕ). IsRefusal (numbered (outer_claim n place) 0 forms) r) (ap (λ l. length l + c.from.result) c.params.ensures.params ∙ ap (λ n. length c.args.program.now.params + n) c.from.ensures)
    (c.loop-i.invariant (Err r)
    (numbered-stop (outer_claim first place) forms i form below is r
    (refused-here (record { condition = 22; place = place ++ Key (codes "vertex") ∷ Key (codes "point") ∷ Index i ∷ []; statement = IsWithoutPast first form }) [] r
    (λ holds. let yes : c.is_without.result ≡ true = c.is_without.ensures.1 holds in cc)
    (subst (λ (p : List Step). IsRefusalAt 22 p r) c.in_ok-form.ensures c.refusal.ensures))))

pub returns : goal.returns
returns c =
    let forms : List AffineForm = c.args.term.now.vertex.point.items in
    let first : ℕ = length c.params.result.now + c.from.result in
    subst (λ (n : ℕ). AllHold (numbered (outer_claim n c.args.place.now) 0 forms)) (ap (λ l. length l + c.from.result) c.params.ensures.params ∙ ap (λ n. length c.args.program.now.params + n) c.from.ensures)
    (c.loop-i.invariant (Ok tt) (numbered-ended (outer_claim first c.args.place.now) forms c.loop-i.i (drop_all c.loop-i.i forms (omega (arith, c.loop-i-test.false, ap length c.deref-form-items.ensures.value)))))
