use Rattle.std.proofs.Common.{◌≡◌, ◌≤◌, subst, ◌∙◌, ap, length, ◌+◌, ℕ, pos, arith, sym}
use Rattle.std.specs.Prelude.{IfOk, IfNone}
use Rattle.iolb_model.specs.Form.{AffineForm}
use Rattle.affine_form.specs.Form.{variables}
use Rattle.affine_form.specs.Rows.{difference}
use Rattle.affine_form.specs.System.{AffineSystem}
use Rattle.affine_form.proofs.RowLemmas.{length-difference}
use Rattle.affine_program.specs.Parts.{meaning}
use Rattle.int_sets.specs.ShortList.{HasShortList}
use Rattle.domain_count.specs.Count.{rows_before}
use Rattle.domain_count.proofs.making.range.Goals as goal

pub prove-requires : goal.prove-requires
prove-requires c =
    let params : length c.params.result.now ≡ length c.args.program.now.params = ap length c.params.ensures.params in
    let upper : variables c.args.bounds.now.1 ≤ length c.params.result.now + length c.args.before.now = omega (arith, c.requires.upper.over) in
    let lower : variables c.args.bounds.now.0 ≤ length c.params.result.now + length c.args.before.now = omega (arith, c.requires.lower.over) in
    let wide : variables c.in_ok-goal.goal ≡ length c.params.result.now + length c.args.before.now
    = ap variables c.in_ok-goal.ensures ∙ length-difference (length c.params.result.now + length c.args.before.now) c.args.bounds.now.1 c.args.bounds.now.0 (pos 1) upper lower in
    wide ∙ ap (λ (n : ℕ). n + length c.args.before.now) params ∙ sym (ap (λ (s : AffineSystem). s.vars) c.in_ok-system.ensures)

pub returns-clause-none : goal.returns-clause-none
returns-clause-none c =
    subst (λ (g : AffineForm). IfOk c.prove.result (λ found. IfNone found (¬ HasShortList (rows_before (meaning c.args.program.now) c.args.before.now) g)))
    (c.in_ok-goal.ensures ∙ ap (λ (n : ℕ). difference (n + length c.args.before.now) c.args.bounds.now.1 c.args.bounds.now.0 (pos 1)) (ap length c.params.ensures.params))
    (subst (λ (s : AffineSystem). IfOk c.prove.result (λ found. IfNone found (¬ HasShortList s c.in_ok-goal.goal))) c.in_ok-system.ensures c.prove.ensures.none)
