use Rattle.std.proofs.Common.{◌≡◌, ◌∙◌, sym, ap, subst, arith, ℕ, ◌+◌, List, length}
use Rattle.std.specs.List.{AllByRecursion}
use Rattle.std.proofs.lemmas.List.{length-map}
use Rattle.iolb_model.specs.Form.{AffineForm}
use Rattle.affine_form.specs.Rows.{IsSmallOver}
use Rattle.affine_program.specs.Parts.{statement_of}
use Rattle.dep_quast.proofs.Fits.{depth-few}
use Rattle.reuse_paths.specs.WalkSettings.{WalkSetting, region_variables, spot_variables}
use Rattle.reuse_paths.specs.Walks.{WalkRegion, region_of}
use Rattle.reuse_paths.specs.WalkViews.{walk_of}
use Rattle.reuse_paths.proofs.EntryClaims.{region-over}
use Rattle.reuse_paths.proofs.reach_shown.start_shown.Goals as goal

pub forms_behind-requires-clause-few_values : goal.forms_behind-requires-clause-few_values
forms_behind-requires-clause-few_values c =
    let parts = c.args.walking.now.program.now in
    omega (
      arith,
      ap (λ (l : List AffineForm). length l) c.as_slice-values.ensures.value,
      c.requires.from_fits.point,
      depth-few parts c.spot_variables-vars.ensures.kept c.args.from.now.statement (omega (arith, length-map parts.statements statement_of, c.requires.from_fits.there)),
    )

pub forms_behind-requires-clause-over : goal.forms_behind-requires-clause-over
forms_behind-requires-clause-over c =
    let walk : WalkSetting = walk_of c.args.walking.now in
    let region : WalkRegion = region_of c.in-Some.region.now in
    let many : region_variables walk c.args.from.now.statement ≡ spot_variables walk + length c.as_slice-values.result.now =
    ap (λ (n : ℕ). spot_variables walk + n) (sym (ap (λ (l : List AffineForm). length l) c.as_slice-values.ensures.value ∙ c.requires.from_fits.point)) in
    subst (AllByRecursion (IsSmallOver (spot_variables walk + length c.as_slice-values.result.now))) (sym c.as_slice.ensures.value)
    (subst (λ (n : ℕ). AllByRecursion (IsSmallOver n) region.rows) many (region-over walk c.args.from.now.statement region c.requires.fits.rows c.in-Some.ensures))
