use Rattle.std.proofs.Common.{rules, ◌∙◌, ap, ℕ, List, [], ◌∷◌, ◌++◌}
use Rattle.std.proofs.lemmas.Result.{IfErr-weaker}
use Rattle.iolb_model.specs.Form.{AffineForm}
use Rattle.claims.specs.Claims.{AllHold, IsRefusal}
use Rattle.claims.specs.declared.place.Step.{Step}
use Rattle.claims.specs.declared.refused.Refused.{Refused}
use Rattle.claims.proofs.Found.{IfOk-then}
use Rattle.dep_quast.specs.Context.{no_row}
use Rattle.reuse_paths.specs.FewContexts.{few_walk}
use Rattle.reuse_paths.specs.WalkSettings.{WalkSetting}
use Rattle.reuse_paths.specs.Walks.{tree_of_walk}
use Rattle.reuse_paths.specs.WalkViews.{walk_of}
use Rattle.reuse_paths.proofs.ToldSides.{few-first, few-second, few-both}
use Rattle.reuse_paths.proofs.family_footprint.+push_walk.Goals as goal

pub returns-in_err-push_walk-in-Test-clause-refused : goal.returns-in_err-push_walk-in-Test-clause-refused
returns-in_err-push_walk-in-Test-clause-refused t c =
    let walk : WalkSetting = walk_of c.args.walking.now in
    let place : List Step = c.args.place.now in
    let rows : List AffineForm = c.args.rows.now in
    let form : AffineForm = c.in-Test.form in
    let r : Refused = c.in_err-push_walk-in-Test.field-0.0 in
    let refused : IsRefusal (few_walk walk c.args.statement place rows (tree_of_walk c.args.tree.now)) r =
    few-first walk c.args.statement rows place form c.in-Test.yes.value c.in-Test.no.value c.as_slice.result.now c.as_slice.result.now c.in_ok-side-in-Test.side c.in_ok-side-in-Test.side
    c.args.tree.now c.deref.result.now c.deref.result.now (ap tree_of_walk c.in-Test.is) (ap tree_of_walk c.deref.ensures)
    (c.as_slice.ensures.value ∙ c.in_ok-above-in-Test.ensures ∙ ap (λ (f : AffineForm). rows ++ f ∷ []) c.in_ok-try_clone-in-Test.ensures) c.in_ok-side-in-Test.ensures r c.in_err-push_walk-in-Test.ensures.refused in
    search rules

pub returns-in_ok-side-in-Test-2-clause-few : goal.returns-in_ok-side-in-Test-2-clause-few
returns-in_ok-side-in-Test-2-clause-few t c =
    let walk : WalkSetting = walk_of c.args.walking.now in
    let s : ℕ = c.args.statement in
    let place : List Step = c.args.place.now in
    let rows : List AffineForm = c.args.rows.now in
    let form : AffineForm = c.in-Test.form in
    IfOk-then c.push_walk-in-Test.result (λ _. AllHold (few_walk walk s c.in_ok-side-in-Test-2.side c.as_slice-in-Test.result.now (tree_of_walk c.deref-in-Test.result.now)))
    (λ _. AllHold (few_walk walk s place rows (tree_of_walk c.args.tree.now))) c.push_walk-in-Test.ensures.few
    (λ _ h. few-both walk s rows place form c.in-Test.yes.value c.in-Test.no.value c.as_slice.result.now c.as_slice-in-Test.result.now c.in_ok-side-in-Test.side c.in_ok-side-in-Test-2.side
    c.args.tree.now c.deref.result.now c.deref-in-Test.result.now (ap tree_of_walk c.in-Test.is) (ap tree_of_walk c.deref.ensures)
    (c.as_slice.ensures.value ∙ c.in_ok-above-in-Test.ensures ∙ ap (λ (f : AffineForm). rows ++ f ∷ []) c.in_ok-try_clone-in-Test.ensures) c.in_ok-side-in-Test.ensures
    (ap tree_of_walk c.deref-in-Test.ensures)
    (c.as_slice-in-Test.ensures.value ∙ c.in_ok-below-in-Test.ensures.rows ∙ ap (λ (n : ℕ). rows ++ no_row n form ∷ []) c.region_variables-vars.ensures.variables)
    c.in_ok-side-in-Test-2.ensures c.in_ok-push_walk-in-Test.ensures.few h)

pub returns-in_ok-side-in-Test-2-clause-refused : goal.returns-in_ok-side-in-Test-2-clause-refused
returns-in_ok-side-in-Test-2-clause-refused t c =
    let walk : WalkSetting = walk_of c.args.walking.now in
    let s : ℕ = c.args.statement in
    let place : List Step = c.args.place.now in
    let rows : List AffineForm = c.args.rows.now in
    let form : AffineForm = c.in-Test.form in
    IfErr-weaker c.push_walk-in-Test.result (λ (r : Refused). IsRefusal (few_walk walk s c.in_ok-side-in-Test-2.side c.as_slice-in-Test.result.now (tree_of_walk c.deref-in-Test.result.now)) r)
    (λ (r : Refused). IsRefusal (few_walk walk s place rows (tree_of_walk c.args.tree.now)) r)
    (λ r h. few-second walk s rows place form c.in-Test.yes.value c.in-Test.no.value c.as_slice.result.now c.as_slice-in-Test.result.now c.in_ok-side-in-Test.side c.in_ok-side-in-Test-2.side
    c.args.tree.now c.deref.result.now c.deref-in-Test.result.now (ap tree_of_walk c.in-Test.is) (ap tree_of_walk c.deref.ensures)
    (c.as_slice.ensures.value ∙ c.in_ok-above-in-Test.ensures ∙ ap (λ (f : AffineForm). rows ++ f ∷ []) c.in_ok-try_clone-in-Test.ensures) c.in_ok-side-in-Test.ensures
    (ap tree_of_walk c.deref-in-Test.ensures)
    (c.as_slice-in-Test.ensures.value ∙ c.in_ok-below-in-Test.ensures.rows ∙ ap (λ (n : ℕ). rows ++ no_row n form ∷ []) c.region_variables-vars.ensures.variables)
    c.in_ok-side-in-Test-2.ensures c.in_ok-push_walk-in-Test.ensures.few r h) c.push_walk-in-Test.ensures.refused
