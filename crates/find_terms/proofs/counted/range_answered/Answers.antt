use Rattle.std.proofs.Common.{◌≡◌, sym, ◌∙◌, ap, subst, ℕ, ◌+◌, ◌≤◌, pos, List, [], ◌∷◌, ◌++◌, length, arith}
use Rattle.std.specs.Prelude.{IfOk, MatchOption}
use Rattle.iolb_model.specs.Form.{AffineForm}
use Rattle.affine_form.specs.Form.{variables}
use Rattle.affine_form.specs.Rows.{difference}
use Rattle.affine_form.specs.System.{AffineSystem, AllOver}
use Rattle.affine_form.proofs.RowLemmas.{length-difference}
use Rattle.affine_program.specs.Parts.{meaning}
use Rattle.flow_deps.specs.Answers.{Answers, HasNoShort, following}
use Rattle.domain_count.specs.Count.{range_goal, rows_before}
use Rattle.find_terms.proofs.counted.range_answered.Goals as goal

pub goals_answered-requires : goal.goals_answered-requires
goals_answered-requires c =
    let vars : ℕ = length c.params.result.now + length c.args.before.now in
    let params : length c.params.result.now ≡ length c.args.program.now.params = ap length c.params.ensures.params in
    let upper : variables c.args.bounds.now.1 ≤ vars = omega (arith, c.requires.upper.over) in
    let lower : variables c.args.bounds.now.0 ≤ vars = omega (arith, c.requires.lower.over) in
    let wide : variables c.in_ok-difference.field-0 ≡ vars = ap variables c.in_ok-difference.ensures ∙ length-difference vars c.args.bounds.now.1 c.args.bounds.now.0 (pos 1) upper lower in
    let over : variables c.in_ok-difference.field-0 ≡ c.in_ok-system.system.vars =
    wide ∙ ap (λ (n : ℕ). n + length c.args.before.now) params ∙ sym (ap (λ (s : AffineSystem). s.vars) c.in_ok-system.ensures) in
    let is : c.as_slice.result.now ≡ c.in_ok-difference.field-0 ∷ [] =
    c.as_slice.ensures.value ∙ c.in_ok-push.ensures.items ∙ ap (λ (fs : List AffineForm). fs ++ c.in_ok-difference.field-0 ∷ []) c.new-goals.ensures.items in
    subst (AllOver c.in_ok-system.system.vars) (sym is) (over, tt)

pub returns-clause-answers : goal.returns-clause-answers
returns-clause-answers c =
    let program = meaning c.args.program.now in
    let params : length c.params.result.now ≡ length c.args.program.now.params = ap length c.params.ensures.params in
    let goals : c.as_slice.result.now ≡ range_goal (length c.args.program.now.params + length c.args.before.now) c.args.bounds.now ∷ [] =
    c.as_slice.ensures.value ∙ c.in_ok-push.ensures.items ∙ ap (λ (fs : List AffineForm). fs ++ c.in_ok-difference.field-0 ∷ []) c.new-goals.ensures.items
    ∙ ap (λ (f : AffineForm). f ∷ [])
    (c.in_ok-difference.ensures ∙ ap (λ (n : ℕ). difference (n + length c.args.before.now) c.args.bounds.now.1 c.args.bounds.now.0 (pos 1)) params) in
    subst (λ (gs : List AffineForm). IfOk c.goals_answered.result (λ found. MatchOption found (HasNoShort (following (rows_before program c.args.before.now) gs)) (λ shown. Answers c.args.wanted (following (rows_before program c.args.before.now) gs) shown.items))) goals
    (subst (λ (s : AffineSystem). IfOk c.goals_answered.result (λ found. MatchOption found (HasNoShort (following s c.as_slice.result.now)) (λ shown. Answers c.args.wanted (following s c.as_slice.result.now) shown.items))) c.in_ok-system.ensures c.goals_answered.ensures)
