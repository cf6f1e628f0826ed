use Rattle.std.specs.Prelude.{codes}
use Rattle.std.proofs.Common.{◌∙◌, ap, subst, ℕ, map, List, [], ◌∷◌, ◌++◌}
use Rattle.iolb_model.specs.Form.{AffineForm}
use Rattle.claims.specs.Claims.{Claim, Decides}
use Rattle.claims.specs.declared.place.Step.{Step}
use Rattle.claims.specs.declared.place.Step.TheVariants.{Key}
use Rattle.affine_form.specs.System.{AffineSystem}
use Rattle.claims.specs.Shown.{follow_claims}
use Rattle.dep_quast.specs.OpenLeaves.{form_at}
use Rattle.reuse_paths.specs.WalkSettings.{WalkSetting, forms_behind, reading_point, region_variables}
use Rattle.reuse_paths.specs.WalkViews.{walk_of}
use Rattle.reuse_paths.proofs.entry_shown.region_shown.Goals as goal

pub returns : goal.returns
returns c =
    let walk : WalkSetting = walk_of c.args.walking.now in
    let vars : ℕ = region_variables walk c.args.statement in
    let condition : ℕ = c.args.walking.now.condition in
    let list : List Step = c.args.place.now ++ Key (codes "rows") ∷ [] in
    let system : AffineSystem = record { vars = vars; rows = c.args.rows.now } in
    let shown = c.args.shown.now in
    subst (λ (cs : List Claim). Decides cs c.goals_shown.result)
    (ap (λ (place : List Step). follow_claims condition place c.in_ok-system.system 0 c.as_slice-2.result.now shown) c.in_ok-list.ensures
    ∙ ap (λ (s : AffineSystem). follow_claims condition list s 0 c.as_slice-2.result.now shown)
    (c.in_ok-system.ensures ∙ ap (λ (n : ℕ). record { vars = n; rows = c.args.rows.now }) c.region_variables-vars.ensures.variables)
    ∙ ap (λ (goals : List AffineForm). follow_claims condition list system 0 goals shown)
    (c.as_slice-2.ensures.value ∙ c.in_ok-goals.ensures
    ∙ ap (λ (n : ℕ). forms_behind walk n c.as_slice.result.now c.as_slice-own.result.now) c.region_variables-vars.ensures.variables
    ∙ ap (λ (values : List AffineForm). forms_behind walk vars values c.as_slice-own.result.now) (c.as_slice.ensures.value ∙ c.in_ok-here.ensures.values)
    ∙ ap (forms_behind walk vars (map (form_at vars (reading_point walk c.args.statement)) c.args.values.now)) c.as_slice-own.ensures.value))
    c.goals_shown.ensures
