use Rattle.std.specs.Prelude.{codes}
use Rattle.std.proofs.Common.{◌≡◌, ◌∙◌, sym, ap, subst, arith, ℕ, ◌+◌, List, [], ◌∷◌, ◌++◌, map, length}
use Rattle.std.specs.List.{AllByRecursion}
use Rattle.std.proofs.lemmas.List.{length-map}
use Rattle.iolb_model.specs.Form.{AffineForm}
use Rattle.claims.specs.Claims.{Claim, Decides}
use Rattle.claims.specs.declared.place.Step.{Step}
use Rattle.claims.specs.declared.place.Step.TheVariants.{Key}
use Rattle.affine_form.specs.Rows.{IsSmallOver}
use Rattle.affine_form.specs.System.{AffineSystem}
use Rattle.affine_program.specs.Domain.{depth_of}
use Rattle.affine_program.specs.Parts.{statement_of}
use Rattle.claims.specs.Shown.{follow_claims}
use Rattle.dep_quast.proofs.Fits.{depth-few}
use Rattle.dep_quast.specs.OpenLeaves.{LeafOrigin, origin_of, written, form_at}
use Rattle.reuse_paths.specs.EntryClaims.{IsInRegion, going_goals}
use Rattle.reuse_paths.specs.WalkSettings.{WalkSetting, forms_behind, reading_point, region_variables, spot_variables}
use Rattle.reuse_paths.specs.Walks.{WalkRegion, region_of}
use Rattle.reuse_paths.specs.WalkViews.{walk_of, OriginFits}
use Rattle.reuse_paths.proofs.EntryClaims.{going-found, region-over}
use Rattle.reuse_paths.proofs.entry_shown.going_shown.Goals as goal

pub region_shown-requires-clause-few_values : goal.region_shown-requires-clause-few_values
region_shown-requires-clause-few_values c =
    let walk : WalkSetting = walk_of c.args.walking.now in
    let writer : ℕ = c.in-Written.writer in
    let values : List AffineForm = c.in-Written.point.items in
    let fits : OriginFits walk.program (length walk.program.parameters + depth_of walk.program c.args.statement) (written writer values) =
    subst (OriginFits walk.program (length walk.program.parameters + depth_of walk.program c.args.statement)) (ap origin_of c.in-Written.is) c.requires.origin in
    let parts = c.args.walking.now.program.now in
    omega (arith, ap (λ (l : List AffineForm). length l) c.as_slice.ensures.value, fits.1, depth-few parts c.params-params.ensures.kept writer (omega (arith, length-map parts.statements statement_of, fits.0)))

pub region_shown-requires-clause-region_over : goal.region_shown-requires-clause-region_over
region_shown-requires-clause-region_over c =
    let walk : WalkSetting = walk_of c.args.walking.now in
    let writer : ℕ = c.in-Written.writer in
    let values : List AffineForm = c.in-Written.point.items in
    let fits : OriginFits walk.program (length walk.program.parameters + depth_of walk.program c.args.statement) (written writer values) =
    subst (OriginFits walk.program (length walk.program.parameters + depth_of walk.program c.args.statement)) (ap origin_of c.in-Written.is) c.requires.origin in
    let many : region_variables walk writer ≡ spot_variables walk + length c.as_slice.result.now =
    ap (λ (n : ℕ). spot_variables walk + n) (sym (ap (λ (l : List AffineForm). length l) c.as_slice.ensures.value ∙ fits.1)) in
    let region : WalkRegion = region_of c.in-Some.region.now in
    subst (λ (n : ℕ). AllByRecursion (IsSmallOver n) region.rows) many (region-over walk writer region c.requires.fits.setting.rows c.in-Some.ensures)

pub returns : goal.returns
returns c =
    let walk : WalkSetting = walk_of c.args.walking.now in
    let vars : ℕ = region_variables walk c.args.statement in
    let point : List AffineForm = reading_point walk c.args.statement in
    let condition : ℕ = c.args.walking.now.condition in
    let place : List Step = c.args.place.now in
    let system : AffineSystem = record { vars = vars; rows = c.args.rows.now } in
    let region : WalkRegion = region_of c.in-Some.region.now in
    let entered : List AffineForm → List Claim = λ values. follow_claims condition (place ++ Key (codes "rows") ∷ []) system 0 (forms_behind walk vars (map (form_at vars point) values) region.rows) c.args.shown.now in
    let claimed : LeafOrigin → List Claim = λ origin.
    record { condition = condition; place = place; statement = IsInRegion walk origin } ∷ follow_claims condition (place ++ Key (codes "rows") ∷ []) system 0 (going_goals walk vars point origin) c.args.shown.now in
    subst (λ (origin : LeafOrigin). Decides (claimed origin) c.region_shown.result) (sym (ap origin_of c.in-Written.is))
    (going-found condition walk place system point c.in-Written.writer c.in-Written.point.items region c.args.shown.now c.region_shown.result c.in-Some.ensures
    (subst (λ (values : List AffineForm). Decides (entered values) c.region_shown.result) c.as_slice.ensures.value c.region_shown.ensures))
