use Rattle.std.proofs.Common.{◌≡◌, ◌∙◌, sym, ap, subst, arith, ℕ, List, ◌+◌, map, length}
use Rattle.std.specs.List.{AllByRecursion}
use Rattle.iolb_model.specs.Form.{AffineForm}
use Rattle.affine_form.specs.Rows.{IsSmallOver}
use Rattle.affine_program.specs.Domain.{depth_of}
use Rattle.claims.proofs.Found.{IfOk-then}
use Rattle.dep_quast.specs.OpenLeaves.{form_at}
use Rattle.reuse_paths.specs.WalkSettings.{WalkSetting, reading_point, region_variables, spot_variables}
use Rattle.reuse_paths.specs.WalkViews.{walk_of}
use Rattle.reuse_paths.proofs.Renamed.{forms_at-small}
use Rattle.reuse_paths.proofs.region.written_values.Goals as goal

pub returns-clause-over : goal.returns-clause-over
returns-clause-over c =
    let walk : WalkSetting = walk_of c.args.walking.now in
    let s : ℕ = c.args.statement in
    let vars : ℕ = region_variables walk s in
    let point : List AffineForm = reading_point walk s in
    let over : AllByRecursion (IsSmallOver vars) point = subst (AllByRecursion (IsSmallOver vars)) c.in_ok-point.ensures.point c.in_ok-point.ensures.over in
    let many : length point ≡ length walk.program.parameters + depth_of walk.program s = ap length (sym c.in_ok-point.ensures.point) ∙ c.in_ok-point.ensures.many in
    let small : AllByRecursion (IsSmallOver vars) (map (form_at vars point) c.args.values.now) =
    forms_at-small vars (length walk.program.parameters) (spot_variables walk) (depth_of walk.program s) (omega arith) (omega arith) over c.args.values.now
    (subst (λ (n : ℕ). AllByRecursion (IsSmallOver n) c.args.values.now) (sym many) c.requires.over) in
    IfOk-then c.forms_at.result (λ all. all.items ≡ map (form_at c.region_variables-vars.result c.as_slice.result.now) c.args.values.now) (λ all. AllByRecursion (IsSmallOver vars) all.items) c.forms_at.ensures.forms
    (λ all e. subst (AllByRecursion (IsSmallOver vars)) (sym (e ∙ ap (λ (n : ℕ). map (form_at n c.as_slice.result.now) c.args.values.now) c.region_variables-vars.ensures.variables
    ∙ ap (λ (p : List AffineForm). map (form_at vars p) c.args.values.now) (c.as_slice.ensures.value ∙ c.in_ok-point.ensures.point))) small)
