use Rattle.std.proofs.Common.{◌≡◌, ◌∙◌, sym, ap, subst, ℕ, ◌+◌, [], ◌∷◌, ◌++◌, length}
use Rattle.std.proofs.lemmas.List.{length-append}
use Rattle.iolb_model.specs.Form.{AffineForm}
use Rattle.affine_form.specs.Rows.{IsSmallOver}
use Rattle.flow_deps.proofs.AnswerLaws.{some-has}
use Rattle.affine_facts.proofs.BoundsLaws.{BoundsFit-push}
use Rattle.affine_facts.proofs.nests.nest_of.Goals as goal

pub loop-place-preserved : goal.loop-place-preserved
loop-place-preserved c =
    let bounds : AffineForm × AffineForm = (c.in-Some.lower, c.in-Some-2.upper) in
    let vars : ℕ = c.args.params + c.loop-place.place in
    let small : IsSmallOver vars bounds.0 × IsSmallOver vars bounds.1 =
    (some-has c.in_ok-lower.field-0 c.in-Some.lower (IsSmallOver vars) c.in-Some.is c.in_ok-lower.ensures, some-has c.in_ok-upper.field-0 c.in-Some-2.upper (IsSmallOver vars) c.in-Some-2.is c.in_ok-upper.ensures) in
    record {
      many = rw c.in_ok-push.ensures.items (length-append c.loop-place.all.items (bounds ∷ []) ∙ ap (λ k. k + 1) c.loop-place.invariant.many);
      fit = rw c.in_ok-push.ensures.items (BoundsFit-push c.args.params c.loop-place.all.items bounds c.loop-place.invariant.fit
          (subst (λ (n : ℕ). IsSmallOver (c.args.params + n) bounds.0 × IsSmallOver (c.args.params + n) bounds.1) (sym c.loop-place.invariant.many) small));
    }
