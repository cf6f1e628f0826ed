use Rattle.std.proofs.Common.{◌≡◌, ◌∙◌, sym, ap, subst, arith, ℕ, ◌*◌, ◌≤◌, List, ◌++◌, map, length}
use Rattle.std.specs.List.{AllByRecursion}
use Rattle.std.proofs.lemmas.List.{length-map}
use Rattle.iolb_model.specs.Form.{AffineForm}
use Rattle.affine_form.specs.Form.{variables}
use Rattle.affine_form.specs.Rows.{variables_from}
use Rattle.dep_quast.proofs.Fits.{length-equality_rows}
use Rattle.dep_quast.specs.OpenLeaves.{form_at}
use Rattle.reuse_paths.specs.WalkSettings.{WalkSetting, reading_point, region_variables, spot_variables}
use Rattle.reuse_paths.specs.WalkViews.{walk_of}
use Rattle.reuse_paths.proofs.FamilyLabels.{own-within}
use Rattle.reuse_paths.proofs.word_labels.same_shown.Goals as goal

pub equal_rows-requires-clause-other_within : goal.equal_rows-requires-clause-other_within
equal_rows-requires-clause-other_within c =
    let walk : WalkSetting = walk_of c.args.walking.now in
    subst (λ (n : ℕ). AllByRecursion (λ (form : AffineForm). variables form ≤ n) c.args.own.now) (sym c.region_variables-vars.ensures.variables)
    (own-within (region_variables walk c.args.statement) c.args.own.now c.requires.own_over)

pub goals_shown-requires : goal.goals_shown-requires
goals_shown-requires c =
    let walk : WalkSetting = walk_of c.args.walking.now in
    let vars : ℕ = region_variables walk c.args.statement in
    let here : List AffineForm = map (form_at vars (reading_point walk c.args.statement)) c.args.values.now in
    let word : length c.as_slice.result.now ≡ length c.args.own.now =
    ap (λ (l : List AffineForm). length l) (c.as_slice.ensures.value ∙ c.in_ok-word.ensures.word)
    ∙ length-map c.args.label.now (form_at vars (variables_from vars 0 (spot_variables walk) ++ here)) ∙ c.requires.one_each in
    let many : length c.as_slice-2.result.now ≡ 2 * length c.args.own.now =
    ap (λ (l : List AffineForm). length l) (c.as_slice-2.ensures.value ∙ c.in_ok-goals.ensures) ∙ length-equality_rows c.region_variables-vars.result c.as_slice.result.now c.args.own.now word in
    omega (arith, many, c.requires.enough)
