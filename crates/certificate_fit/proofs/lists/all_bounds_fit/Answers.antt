use Rattle.std.proofs.Common.{sym, ◌∙◌, ap, subst, List, [], ◌∷◌, ◌++◌, length, ◌+◌}
use Rattle.std.specs.Prelude.{Err}
use Rattle.claims.specs.Claims.{Claim, IsRefusalAt}
use Rattle.claims.specs.declared.place.Step.{Step}
use Rattle.claims.specs.declared.place.Step.TheVariants.{Key, Index}
use Rattle.claims.proofs.Found.{refused-behind, refused-here}
use Rattle.claims.proofs.Members.{numbered-next, numbered-stop}
use Rattle.certificate_fit.specs.PartFit.{bounds_at, form_fits}
use Rattle.certificate_fit.proofs.lists.all_bounds_fit.Goals as goal

pub returns-then-coef-variables : goal.returns-then-coef-variables
returns-then-coef-variables c =
    let list = c.args.place.now ++ Key c.args.key ∷ [] in
    let i = c.loop-index.index in
    let bounds = c.index-bounds-index.result in
    let r = c.refusal.result in
    let lower : Claim = form_fits (c.args.variables + i) (list ++ Index i ∷ Index 0 ∷ []) bounds.0 in
    let upper : Claim = form_fits (c.args.variables + i) (list ++ Index i ∷ Index 1 ∷ []) bounds.1 in
    c.loop-index.invariant (Err r)
    (numbered-stop (bounds_at c.args.variables list) c.args.bounds.now i bounds c.loop-index-test.true c.index-bounds-index.is r
    (refused-here lower (upper ∷ []) r (λ fits. c.if-coef-variables.true (ap length c.coef.ensures.coefficients ∙ fits))
    (subst (λ (p : List Step). IsRefusalAt 1 p r) c.in_ok-bound.ensures c.refusal.ensures)))

pub returns-then-coef-variables-2 : goal.returns-then-coef-variables-2
returns-then-coef-variables-2 c =
    let list = c.args.place.now ++ Key c.args.key ∷ [] in
    let i = c.loop-index.index in
    let bounds = c.index-bounds-index.result in
    let r = c.refusal-then-coef-variables-2.result in
    let lower : Claim = form_fits (c.args.variables + i) (list ++ Index i ∷ Index 0 ∷ []) bounds.0 in
    let upper : Claim = form_fits (c.args.variables + i) (list ++ Index i ∷ Index 1 ∷ []) bounds.1 in
    c.loop-index.invariant (Err r)
    (numbered-stop (bounds_at c.args.variables list) c.args.bounds.now i bounds c.loop-index-test.true c.index-bounds-index.is r
    (refused-behind lower (upper ∷ []) r (sym (ap length c.coef.ensures.coefficients) ∙ c.if-coef-variables.false)
    (refused-here upper [] r (λ fits. c.if-coef-variables-2.true (ap length c.coef-in-loop-index.ensures.coefficients ∙ fits))
    (subst (λ (p : List Step). IsRefusalAt 1 p r) c.in_ok-bound-2.ensures c.refusal-then-coef-variables-2.ensures))))

pub loop-index-preserved : goal.loop-index-preserved
loop-index-preserved c = λ answer h.
    let list = c.args.place.now ++ Key c.args.key ∷ [] in
    c.loop-index.invariant answer
    (numbered-next (bounds_at c.args.variables list) c.args.bounds.now c.loop-index.index c.index-bounds-index.result c.loop-index-test.true c.index-bounds-index.is answer
    (sym (ap length c.coef.ensures.coefficients) ∙ c.if-coef-variables.false, (sym (ap length c.coef-in-loop-index.ensures.coefficients) ∙ c.if-coef-variables-2.false, tt)) h)
