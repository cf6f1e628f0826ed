use Rattle.std.proofs.Common.{◌≡◌, ◌∙◌, sym, ap, subst, arith, ℕ, List, map, length}
use Rattle.iolb_model.specs.Form.{AffineForm}
use Rattle.affine_form.specs.Rows.{variables_from, within_rows, BoundsFit}
use Rattle.affine_program.specs.Parts.{statement_of}
use Rattle.std.proofs.lemmas.List.{length-map}
use Rattle.dep_quast.specs.Context.{parameter_point}
use Rattle.dep_quast.proofs.Fits.{depth-few, params-few}
use Rattle.reuse_paths.specs.WalkSettings.{WalkSetting, region_variables}
use Rattle.reuse_paths.specs.WalkViews.{walk_of}
use Rattle.reuse_paths.proofs.family_shown.start_rows.Goals as goal

pub within_rows-requires-clause-few_forms : goal.within_rows-requires-clause-few_forms
within_rows-requires-clause-few_forms c =
    let parts = c.args.walking.now.program.now in
    let is = c.params.ensures.kept in
    omega (
      arith,
      ap (λ (l : List AffineForm). length l) c.as_slice.ensures.value,
      c.in_ok-params.ensures.many,
      ap (λ (l : List (List ℕ)). length l) c.params.ensures.params,
      params-few parts is,
      ap (λ (l : List AffineForm). length l) c.as_slice-2.ensures.value,
      c.in_ok-values.ensures.many,
      depth-few parts is c.args.statement (omega (arith, length-map parts.statements statement_of, c.requires.there)),
    )

pub within_rows-requires-clause-one_each : goal.within_rows-requires-clause-one_each
within_rows-requires-clause-one_each c =
    ap (λ (l : List AffineForm). length l) c.as_slice-2.ensures.value ∙ c.in_ok-values.ensures.many ∙ sym c.requires.each ∙ sym (ap (λ (l : List (AffineForm × AffineForm)). length l) c.bounds-bounds.ensures)

pub within_rows-requires-clause-bounds_fit : goal.within_rows-requires-clause-bounds_fit
within_rows-requires-clause-bounds_fit c =
    let many : length c.as_slice.result.now ≡ length c.args.walking.now.program.now.params =
    ap (λ (l : List AffineForm). length l) c.as_slice.ensures.value ∙ c.in_ok-params.ensures.many ∙ ap (λ (l : List (List ℕ)). length l) c.params.ensures.params in
    subst (λ (n : ℕ). BoundsFit n c.bounds-bounds.result.now) (sym many)
    (subst (BoundsFit (length c.args.walking.now.program.now.params)) (sym c.bounds-bounds.ensures) c.requires.bounds)

pub returns-clause-rows : goal.returns-clause-rows
returns-clause-rows c =
    let walk : WalkSetting = walk_of c.args.walking.now in
    let vars : ℕ = region_variables walk c.args.statement in
    let nest = c.args.nest.now in
    let many = ap (λ (l : List (List ℕ)). length l) c.params.ensures.params in
    c.in_ok-rows.ensures.rows
    ∙ ap (λ (n : ℕ). within_rows n c.bounds-bounds.result.now c.as_slice.result.now c.as_slice-2.result.now) c.region_variables-vars.ensures.variables
    ∙ ap (λ (b : List (AffineForm × AffineForm)). within_rows vars b c.as_slice.result.now c.as_slice-2.result.now) c.bounds-bounds.ensures
    ∙ ap (λ (p : List AffineForm). within_rows vars nest p c.as_slice-2.result.now)
    (c.as_slice.ensures.value ∙ c.in_ok-params.ensures.forms ∙ ap (λ (n : ℕ). variables_from n 0 (length c.params.result.now)) c.region_variables-vars.ensures.variables ∙ ap (variables_from vars 0) many)
    ∙ ap (within_rows vars nest (parameter_point walk.program vars)) (c.as_slice-2.ensures.value ∙ c.in_ok-values.ensures.values)
