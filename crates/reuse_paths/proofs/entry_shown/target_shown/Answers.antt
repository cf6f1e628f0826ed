use Rattle.std.proofs.Common.{◌≡◌, ◌∙◌, sym, ap, subst, arith, ℕ, ◌*◌, List, map, length}
use Rattle.std.specs.List.{AllByRecursion}
use Rattle.std.proofs.lemmas.List.{length-map}
use Rattle.iolb_model.specs.Form.{AffineForm}
use Rattle.affine_form.specs.Rows.{widened, IsSmallOver}
use Rattle.dep_quast.proofs.Fits.{length-equality_rows}
use Rattle.dep_quast.specs.OpenLeaves.{form_at}
use Rattle.reuse_paths.specs.WalkSettings.{WalkSetting, reading_point, region_variables, spot_variables}
use Rattle.reuse_paths.specs.WalkViews.{walk_of}
use Rattle.reuse_paths.proofs.EntryClaims.{all-widened-small}
use Rattle.reuse_paths.proofs.entry_shown.target_shown.Goals as goal

pub equality_rows-requires-clause-right_over : goal.equality_rows-requires-clause-right_over
equality_rows-requires-clause-right_over c =
    let walk : WalkSetting = walk_of c.args.walking.now in
    let is : c.as_slice-3.result.now ≡ map (widened c.region_variables-vars.result) c.args.target.now.point.items =
    c.as_slice-3.ensures.value ∙ c.in_ok-there.ensures ∙ ap (map (widened c.region_variables-vars.result)) c.as_slice.ensures.value in
    subst (AllByRecursion (IsSmallOver c.region_variables-vars.result)) (sym is)
    (all-widened-small (spot_variables walk) c.region_variables-vars.result c.args.target.now.point.items (omega (arith, c.region_variables-vars.ensures.variables)) c.requires.target_fits.forms)

pub goals_shown-requires : goal.goals_shown-requires
goals_shown-requires c =
    let walk : WalkSetting = walk_of c.args.walking.now in
    let vars : ℕ = region_variables walk c.args.statement in
    let here : length c.as_slice-2.result.now ≡ length c.args.values.now =
    ap (λ (l : List AffineForm). length l) (c.as_slice-2.ensures.value ∙ c.in_ok-here.ensures.values) ∙ length-map c.args.values.now (form_at vars (reading_point walk c.args.statement)) in
    let there : length c.as_slice-3.result.now ≡ length c.args.target.now.point.items =
    ap (λ (l : List AffineForm). length l) (c.as_slice-3.ensures.value ∙ c.in_ok-there.ensures ∙ ap (map (widened c.region_variables-vars.result)) c.as_slice.ensures.value)
    ∙ length-map c.args.target.now.point.items (widened c.region_variables-vars.result) in
    let same : length c.as_slice-2.result.now ≡ length c.as_slice-3.result.now = here ∙ c.requires.origin.1 ∙ sym c.requires.target_fits.point ∙ sym there in
    let many : length c.as_slice-4.result.now ≡ 2 * length c.as_slice-3.result.now =
    ap (λ (l : List AffineForm). length l) (c.as_slice-4.ensures.value ∙ c.in_ok-goals.ensures.rows) ∙ length-equality_rows c.region_variables-vars.result c.as_slice-2.result.now c.as_slice-3.result.now same in
    omega (arith, many, there, c.requires.enough, c.requires.target_fits.point)
