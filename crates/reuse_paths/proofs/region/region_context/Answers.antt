use Rattle.std.proofs.Common.{◌≡◌, ◌∙◌, sym, ap, subst, arith, ℕ, List, ◌++◌, map, length}
use Rattle.std.specs.List.{AllByRecursion}
use Rattle.iolb_model.specs.Form.{AffineForm}
use Rattle.affine_form.specs.Rows.{widened, IsSmallOver}
use Rattle.affine_form.specs.System.{AffineSystem, AllOver}
use Rattle.affine_program.specs.Domain.{domain_rows}
use Rattle.claims.proofs.Found.{IfOk-then}
use Rattle.dep_quast.specs.Context.{parameter_point}
use Rattle.dep_quast.proofs.Fits.{wide-over, over-append}
use Rattle.domain_count.specs.Count.{rows_before}
use Rattle.reuse_paths.specs.WalkSettings.{WalkSetting, region_values, region_variables}
use Rattle.reuse_paths.specs.WalkViews.{walk_of}
use Rattle.footprint_pieces.proofs.MovedForms.{over-within}
use Rattle.reuse_paths.proofs.region.region_context.Goals as goal

pub returns-clause-over : goal.returns-clause-over
returns-clause-over c =
    let vars : ℕ = region_variables (walk_of c.args.walking.now) c.args.statement in
    let nest : AllOver vars c.in_ok-nest.nest.items =
    wide-over c.in_ok-before.before.vars vars c.region_variables-vars.result c.rows.result.now c.in_ok-nest.nest.items c.region_variables-vars.ensures.variables
    (omega (arith, ap (λ (s : AffineSystem). s.vars) c.in_ok-before.ensures, ap (λ (l : List (AffineForm × AffineForm)). length l) c.bounds.ensures)) c.in_ok-nest.ensures (subst (AllOver c.in_ok-before.before.vars) (sym c.rows.ensures.rows) c.rows.ensures.over) in
    let domain : AllOver vars c.as_slice-2.result.now =
    subst (AllOver vars) (sym c.as_slice-2.ensures.value) (subst (λ (n : ℕ). AllOver n c.in_ok-domain.domain.items) c.region_variables-vars.ensures.variables c.in_ok-domain.ensures.over) in
    IfOk-then c.followed_by-2.result (λ all. all.items ≡ c.in_ok-inside.inside.items ++ c.args.rows.now) (λ all. AllOver vars all.items) c.followed_by-2.ensures
    (λ all e. over-append vars c.in_ok-inside.inside.items c.args.rows.now all.items e
    (over-append vars c.in_ok-nest.nest.items c.as_slice-2.result.now c.in_ok-inside.inside.items c.in_ok-inside.ensures nest domain) c.requires.rows_over)

pub all_widened-requires-clause-within : goal.all_widened-requires-clause-within
all_widened-requires-clause-within c =
    over-within c.in_ok-before.before.vars c.region_variables-vars.result c.rows.result.now
    (omega (arith, c.region_variables-vars.ensures.variables, ap (λ (s : AffineSystem). s.vars) c.in_ok-before.ensures, ap (λ (l : List (AffineForm × AffineForm)). length l) c.bounds.ensures))
    (subst (AllOver c.in_ok-before.before.vars) (sym c.rows.ensures.rows) c.rows.ensures.over)

pub domain_rows-requires-clause-one_each : goal.domain_rows-requires-clause-one_each
domain_rows-requires-clause-one_each c = ap (λ (l : List AffineForm). length l) c.as_slice.ensures.value ∙ c.in_ok-values.ensures.many

pub domain_rows-requires-clause-values_over : goal.domain_rows-requires-clause-values_over
domain_rows-requires-clause-values_over c =
    subst (λ (n : ℕ). AllByRecursion (IsSmallOver n) c.as_slice.result.now) (sym c.region_variables-vars.ensures.variables)
    (subst (AllByRecursion (IsSmallOver (region_variables (walk_of c.args.walking.now) c.args.statement))) (sym c.as_slice.ensures.value) c.in_ok-values.ensures.over)

pub returns-clause-rows : goal.returns-clause-rows
returns-clause-rows c =
    let walk : WalkSetting = walk_of c.args.walking.now in
    let s : ℕ = c.args.statement in
    let vars : ℕ = region_variables walk s in
    let front : List AffineForm = map (widened vars) (rows_before walk.program walk.nest).rows in
    let behind : List AffineForm = domain_rows walk.program s vars (parameter_point walk.program vars) (region_values walk s) in
    let nest : c.in_ok-nest.nest.items ≡ front = c.in_ok-nest.ensures
    ∙ ap (λ (n : ℕ). map (widened n) c.rows.result.now) c.region_variables-vars.ensures.variables
    ∙ ap (map (widened vars)) (c.rows.ensures.rows ∙ ap (λ (system : AffineSystem). system.rows) (c.in_ok-before.ensures ∙ ap (rows_before walk.program) c.bounds.ensures)) in
    let domain : c.as_slice-2.result.now ≡ behind = c.as_slice-2.ensures.value ∙ c.in_ok-domain.ensures.rows
    ∙ ap (λ (n : ℕ). domain_rows walk.program s n (parameter_point walk.program n) c.as_slice.result.now) c.region_variables-vars.ensures.variables
    ∙ ap (domain_rows walk.program s vars (parameter_point walk.program vars)) (c.as_slice.ensures.value ∙ c.in_ok-values.ensures.values) in
    IfOk-then c.followed_by-2.result (λ all. all.items ≡ c.in_ok-inside.inside.items ++ c.args.rows.now) (λ all. all.items ≡ front ++ behind ++ c.args.rows.now) c.followed_by-2.ensures
    (λ all e. e ∙ ap (λ (l : List AffineForm). l ++ c.args.rows.now) (c.in_ok-inside.ensures
    ∙ ap (λ (l : List AffineForm). l ++ c.as_slice-2.result.now) nest ∙ ap (λ (l : List AffineForm). front ++ l) domain))
