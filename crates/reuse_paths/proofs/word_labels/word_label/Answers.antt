use Rattle.std.proofs.Common.{◌≡◌, ◌∙◌, sym, ap, subst, arith, ℕ, ◌+◌, ◌≤◌, List, map, length}
use Rattle.std.specs.Prelude.{IfOk}
use Rattle.std.specs.List.{AllByRecursion}
use Rattle.std.proofs.lemmas.List.{length-map}
use Rattle.iolb_model.specs.Form.{AffineForm}
use Rattle.claims.proofs.Found.{IfOk-then}
use Rattle.affine_form.specs.Form.{variables, IsSmallForm}
use Rattle.affine_form.specs.Rows.{IsSmallOver}
use Rattle.dep_quast.proofs.Fits.{params-few}
use Rattle.dep_quast.specs.OpenLeaves.{form_at}
use Rattle.reuse_paths.specs.WalkSettings.{WalkSetting, forms_behind, reading_point, region_variables, spot_variables}
use Rattle.reuse_paths.specs.WalkViews.{walk_of}
use Rattle.reuse_paths.proofs.FamilyLabels.{behind-small, behind-within}
use Rattle.reuse_paths.proofs.word_labels.word_label.Goals as goal
use Rattle.iolb_model.specs.declared.limits.TheConstants.{PUT_SIZE}

-- what is put in, and what it gives
is : (c : goal.After-drop-here) → let walk = walk_of c.args.walking.now in let vars = region_variables walk c.args.statement in
    IfOk c.forms_behind.result (λ word. word.items ≡ forms_behind walk vars (map (form_at vars (reading_point walk c.args.statement)) c.args.values.now) c.args.label.now)
is c =
    let walk : WalkSetting = walk_of c.args.walking.now in
    let vars : ℕ = region_variables walk c.args.statement in
    let here : List AffineForm = map (form_at vars (reading_point walk c.args.statement)) c.args.values.now in
    IfOk-then c.forms_behind.result (λ word. word.items ≡ forms_behind walk c.region_variables-vars.result c.as_slice.result.now c.args.label.now) (λ word. word.items ≡ forms_behind walk vars here c.args.label.now) c.forms_behind.ensures
    (λ word e. e ∙ ap (λ (n : ℕ). forms_behind walk n c.as_slice.result.now c.args.label.now) c.region_variables-vars.ensures.variables
    ∙ ap (λ (values : List AffineForm). forms_behind walk vars values c.args.label.now) (c.as_slice.ensures.value ∙ c.in_ok-here.ensures.values))

pub returns-clause-within : goal.returns-clause-within
returns-clause-within c =
    let walk : WalkSetting = walk_of c.args.walking.now in
    let vars : ℕ = region_variables walk c.args.statement in
    let here : List AffineForm = map (form_at vars (reading_point walk c.args.statement)) c.args.values.now in
    let many : length here ≡ length c.args.values.now = length-map c.args.values.now (form_at vars (reading_point walk c.args.statement)) in
    let over : AllByRecursion (IsSmallOver vars) here = subst (AllByRecursion (IsSmallOver vars)) c.in_ok-here.ensures.values c.in_ok-here.ensures.over in
    let few : spot_variables walk + length here ≤ 24 =
    omega (arith, many, c.requires.few_values, params-few c.args.walking.now.program.now c.params-params.ensures.kept, c.requires.fits.setting.ends.nest.few) in
    IfOk-then c.forms_behind.result (λ word. word.items ≡ forms_behind walk vars here c.args.label.now) (λ word. AllByRecursion (λ (form : AffineForm). variables form ≤ vars) word.items) (is c)
    (λ word e. subst (AllByRecursion (λ (form : AffineForm). variables form ≤ vars)) (sym e)
    (behind-within walk vars here few over c.args.label.now (subst (λ (n : ℕ). AllByRecursion (IsSmallOver (spot_variables walk + n)) c.args.label.now) (sym many) c.requires.label_over)))

pub returns-clause-small : goal.returns-clause-small
returns-clause-small c =
    let walk : WalkSetting = walk_of c.args.walking.now in
    let vars : ℕ = region_variables walk c.args.statement in
    let here : List AffineForm = map (form_at vars (reading_point walk c.args.statement)) c.args.values.now in
    let many : length here ≡ length c.args.values.now = length-map c.args.values.now (form_at vars (reading_point walk c.args.statement)) in
    let over : AllByRecursion (IsSmallOver vars) here = subst (AllByRecursion (IsSmallOver vars)) c.in_ok-here.ensures.values c.in_ok-here.ensures.over in
    let few : spot_variables walk + length here ≤ 24 =
    omega (arith, many, c.requires.few_values, params-few c.args.walking.now.program.now c.params-params.ensures.kept, c.requires.fits.setting.ends.nest.few) in
    IfOk-then c.forms_behind.result (λ word. word.items ≡ forms_behind walk vars here c.args.label.now) (λ word. AllByRecursion (IsSmallForm PUT_SIZE) word.items) (is c)
    (λ word e. subst (AllByRecursion (IsSmallForm PUT_SIZE)) (sym e)
    (behind-small walk vars here few over c.args.label.now (subst (λ (n : ℕ). AllByRecursion (IsSmallOver (spot_variables walk + n)) c.args.label.now) (sym many) c.requires.label_over)))
