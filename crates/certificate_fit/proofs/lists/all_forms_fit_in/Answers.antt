use Rattle.std.proofs.Common.{sym, ◌∙◌, ap, subst, List, [], ◌∷◌, ◌++◌, length}
use Rattle.std.specs.Prelude.{Ok, Err}
use Rattle.std.proofs.lemmas.List.{drop_all}
use Rattle.claims.specs.Claims.{IsRefusalAt}
use Rattle.claims.specs.declared.place.Step.{Step}
use Rattle.claims.specs.declared.place.Step.TheVariants.{Index}
use Rattle.claims.proofs.Found.{refused-here}
use Rattle.claims.proofs.Members.{numbered-ended, numbered-next, numbered-stop}
use Rattle.certificate_fit.specs.PartFit.{form_at, form_fits}
use Rattle.certificate_fit.proofs.lists.all_forms_fit_in.Goals as goal

pub returns : goal.returns
returns c =
    let list = c.args.place.now ++ c.args.step ∷ [] in
    c.loop-index.invariant (Ok tt) (numbered-ended (form_at c.args.variables list) c.args.forms.now c.loop-index.index (drop_all c.loop-index.index c.args.forms.now c.loop-index-test.false))

pub returns-then-coef-variables : goal.returns-then-coef-variables
returns-then-coef-variables c =
    let list = c.args.place.now ++ c.args.step ∷ [] in
    let i = c.loop-index.index in
    let form = c.index-forms-index.result in
    let r = c.refusal.result in
    c.loop-index.invariant (Err r)
    (numbered-stop (form_at c.args.variables list) c.args.forms.now i form c.loop-index-test.true c.index-forms-index.is r
    (refused-here (form_fits c.args.variables (list ++ Index i ∷ []) form) [] r (λ fits. c.if-coef-variables.true (ap length c.coef.ensures.coefficients ∙ fits))
    (subst (λ (p : List Step). IsRefusalAt 1 p r) c.in_ok-member.ensures c.refusal.ensures)))

pub loop-index-preserved : goal.loop-index-preserved
loop-index-preserved c = λ answer h.
    let list = c.args.place.now ++ c.args.step ∷ [] in
    c.loop-index.invariant answer
    (numbered-next (form_at c.args.variables list) c.args.forms.now c.loop-index.index c.index-forms-index.result c.loop-index-test.true c.index-forms-index.is answer (sym (ap length c.coef.ensures.coefficients) ∙ c.if-coef-variables.false, tt) h)
