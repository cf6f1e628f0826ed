use Rattle.std.proofs.Common.{◌≡◌, ◌∙◌, ap, subst, ℕ, List, length}
use Rattle.std.specs.Prelude.{IfOk, MatchOption, OnOk, Result, Ok, Err}
use Rattle.iolb_model.specs.Form.{AffineForm}
use Rattle.affine_form.specs.System.{AffineSystem}
use Rattle.affine_program.specs.Domain.{domain_rows}
use Rattle.affine_program.specs.Parts.{meaning}
use Rattle.flow_deps.specs.Answers.{Answers, HasNoShort, following}
use Rattle.claims.specs.Shown.{IsFew}
use Rattle.dep_quast.specs.Context.{parameter_point}
use Rattle.domain_count.specs.Count.{rows_before}
use Rattle.wavefront.specs.Term.{ColdTerm, inside_goals, nest_system, nest_variables}
use Rattle.cold_terms.specs.Outline.{bare, outline_of}
use Rattle.cold_terms.proofs.outlined.inside_answered.Goals as goal

on-ok : {A E : Type 0} (r : Result A E) (P : Type 0) → P → OnOk r P
on-ok (Ok x) P h = h
on-ok (Err e) P h = tt

pub returns-clause-few : goal.returns-clause-few
returns-clause-few c =
    on-ok c.goals_answered.result (IsFew (length (nest_system (meaning c.args.program.now) (bare (outline_of c.args.outline.now))).rows))
    (subst (λ (s : AffineSystem). IsFew (length s.rows)) (c.in_ok-system.ensures ∙ ap (rows_before (meaning c.args.program.now)) c.bounds.ensures) c.rows-rows.ensures.few)

pub returns-clause-answers : goal.returns-clause-answers
returns-clause-answers c =
    let program = meaning c.args.program.now in
    let term : ColdTerm = bare (outline_of c.args.outline.now) in
    let goals : c.as_slice-2.result.now ≡ inside_goals program term =
    c.as_slice-2.ensures.value ∙ c.in_ok-goals.ensures.rows
    ∙ ap (λ (n : ℕ). domain_rows program term.reader.statement n (parameter_point program n) c.as_slice.result.now) c.variables-vars.ensures.variables
    ∙ ap (domain_rows program term.reader.statement (nest_variables program term) (parameter_point program (nest_variables program term))) c.as_slice.ensures.value in
    let system : c.in_ok-system.system ≡ nest_system program term = c.in_ok-system.ensures ∙ ap (rows_before program) c.bounds.ensures in
    subst (λ (gs : List AffineForm). IfOk c.goals_answered.result (λ found. MatchOption found (HasNoShort (following (nest_system program term) gs)) (λ shown. Answers c.args.wanted (following (nest_system program term) gs) shown.items))) goals
    (subst (λ (s : AffineSystem). IfOk c.goals_answered.result (λ found. MatchOption found (HasNoShort (following s c.as_slice-2.result.now)) (λ shown. Answers c.args.wanted (following s c.as_slice-2.result.now) shown.items))) system c.goals_answered.ensures)
