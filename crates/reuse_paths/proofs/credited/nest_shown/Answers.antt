use Rattle.std.proofs.Common.{◌≡◌, ◌∙◌, sym, ap, subst, arith, ℕ, List, map, length}
use Rattle.std.proofs.lemmas.List.{length-map}
use Rattle.iolb_model.specs.Form.{AffineForm}
use Rattle.affine_form.specs.Rows.{BoundsFit}
use Rattle.dep_quast.proofs.Fits.{params-few}
use Rattle.dep_quast.specs.OpenLeaves.{form_at}
use Rattle.reuse_paths.specs.WalkSettings.{reading_point, region_variables}
use Rattle.reuse_paths.specs.WalkViews.{walk_of}
use Rattle.reuse_paths.proofs.credited.nest_shown.Goals as goal

here-many : (vars : ℕ) (point values here : List AffineForm) → here ≡ map (form_at vars point) values → length here ≡ length values
here-many vars point values here e = ap (λ (l : List AffineForm). length l) e ∙ length-map values (form_at vars point)

pub within_rows-requires-clause-few_forms : goal.within_rows-requires-clause-few_forms
within_rows-requires-clause-few_forms c =
    let parts = c.args.walking.now.program.now in
    omega (
      arith,
      ap (λ (l : List AffineForm). length l) c.as_slice.ensures.value,
      c.in_ok-params.ensures.many,
      ap (λ (l : List (List ℕ)). length l) c.params.ensures.params,
      params-few parts c.params.ensures.kept,
      ap (λ (l : List AffineForm). length l) c.as_slice-2.ensures.value,
      here-many (region_variables (walk_of c.args.walking.now) c.args.statement) (reading_point (walk_of c.args.walking.now) c.args.statement) c.args.values.now c.in_ok-here.here.items c.in_ok-here.ensures.values,
      c.requires.few_values,
    )

pub within_rows-requires-clause-one_each : goal.within_rows-requires-clause-one_each
within_rows-requires-clause-one_each c =
    ap (λ (l : List AffineForm). length l) c.as_slice-2.ensures.value ∙ here-many (region_variables (walk_of c.args.walking.now) c.args.statement) (reading_point (walk_of c.args.walking.now) c.args.statement) c.args.values.now c.in_ok-here.here.items c.in_ok-here.ensures.values ∙ c.requires.one_each ∙ sym (ap (λ (l : List (AffineForm × AffineForm)). length l) c.bounds-bounds.ensures)

pub within_rows-requires-clause-bounds_fit : goal.within_rows-requires-clause-bounds_fit
within_rows-requires-clause-bounds_fit c =
    let many : length c.as_slice.result.now ≡ length c.args.walking.now.program.now.params =
    ap (λ (l : List AffineForm). length l) c.as_slice.ensures.value ∙ c.in_ok-params.ensures.many ∙ ap (λ (l : List (List ℕ)). length l) c.params.ensures.params in
    subst (λ (n : ℕ). BoundsFit n c.bounds-bounds.result.now) (sym many)
    (subst (BoundsFit (length c.args.walking.now.program.now.params)) (sym c.bounds-bounds.ensures) c.requires.bounds_fit)

pub goals_shown-requires : goal.goals_shown-requires
goals_shown-requires c =
    omega (arith, c.requires.enough, ap (λ (l : List AffineForm). length l) c.as_slice-3.ensures.value, c.in_ok-goals.ensures.many, ap (λ (l : List (AffineForm × AffineForm)). length l) c.bounds-bounds.ensures)
