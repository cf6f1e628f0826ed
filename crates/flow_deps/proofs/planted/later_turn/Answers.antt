use Rattle.std.proofs.Common.{◌≡◌, ◌∙◌, ap, sym, subst, ℕ, ◌+◌, ◌≤◌, length, arith}
use Rattle.std.proofs.Math.IntN.{negsuc}
use Rattle.iolb_model.specs.declared.limits.TheConstants.{PUT_SIZE}
use Rattle.affine_form.specs.Form.{IsSmallForm, variables}
use Rattle.affine_form.specs.Rows.{difference, variable}
use Rattle.affine_form.proofs.RowLemmas.{length-difference, small-wider}
use Rattle.affine_program.specs.Parts.{meaning}
use Rattle.claims.proofs.Found.{IfOk-then}
use Rattle.dep_quast.specs.Context.{variables_at}
use Rattle.dep_quast.specs.Views.{read_of}
use Rattle.flow_deps.proofs.SmallForms.{variable-small}
use Rattle.flow_deps.proofs.planted.later_turn.Goals as goal

pub difference-requires-clause-small_right : goal.difference-requires-clause-small_right
difference-requires-clause-small_right c =
    let place : ℕ = length c.params.result.now + c.args.level in
    subst (IsSmallForm PUT_SIZE) (sym c.in_ok-now.ensures) (small-wider (variable c.variables-vars.result place) (variable-small c.variables-vars.result place).small)

pub difference-requires-else-runs_down-clause-small_left : goal.difference-requires-else-runs_down-clause-small_left
difference-requires-else-runs_down-clause-small_left c =
    let place : ℕ = length c.params.result.now + c.args.level in
    subst (IsSmallForm PUT_SIZE) (sym c.in_ok-now.ensures) (small-wider (variable c.variables-vars.result place) (variable-small c.variables-vars.result place).small)

pub returns-then-runs_down-clause-over : goal.returns-then-runs_down-clause-over
returns-then-runs_down-clause-over c =
    let vars : ℕ = c.variables-vars.result in
    let now : variables c.in_ok-now.now ≤ vars = omega (arith, ap variables c.in_ok-now.ensures, (variable-small vars (length c.params.result.now + c.args.level)).over) in
    let upper : variables c.bounds_at.result.now.1 ≤ vars = omega (arith, c.bounds_at.ensures.upper.over, c.requires.there, c.variables-vars.ensures.variables) in
    IfOk-then c.difference.result (λ form. form ≡ difference vars c.bounds_at.result.now.1 c.in_ok-now.now (negsuc 0)) (λ form. variables form ≡ variables_at (meaning c.args.program.now) (read_of c.args.reader)) c.difference.ensures
    (λ form e. ap variables e ∙ length-difference vars c.bounds_at.result.now.1 c.in_ok-now.now (negsuc 0) upper now ∙ c.variables-vars.ensures.variables)

pub returns-clause-over : goal.returns-clause-over
returns-clause-over c =
    let vars : ℕ = c.variables-vars.result in
    let now : variables c.in_ok-now.now ≤ vars = omega (arith, ap variables c.in_ok-now.ensures, (variable-small vars (length c.params.result.now + c.args.level)).over) in
    let lower : variables c.bounds_at.result.now.0 ≤ vars = omega (arith, c.bounds_at.ensures.lower.over, c.requires.there, c.variables-vars.ensures.variables) in
    IfOk-then c.difference-else-runs_down.result (λ form. form ≡ difference vars c.in_ok-now.now c.bounds_at.result.now.0 (negsuc 0)) (λ form. variables form ≡ variables_at (meaning c.args.program.now) (read_of c.args.reader)) c.difference-else-runs_down.ensures
    (λ form e. ap variables e ∙ length-difference vars c.in_ok-now.now c.bounds_at.result.now.0 (negsuc 0) now lower ∙ c.variables-vars.ensures.variables)
