use Rattle.std.proofs.Common.{◌≡◌, ◌∙◌, ◌++◌, ap, sym, subst, arith, ℕ, nat_lt, length, List}
use Rattle.std.specs.List.{AllByRecursion}
use Rattle.iolb_model.specs.Form.{AffineForm}
use Rattle.iolb_model.specs.Order.{common_loops}
use Rattle.affine_form.specs.Rows.{IsSmallWithin, order_rows}
use Rattle.affine_form.specs.System.{AllOver}
use Rattle.affine_program.specs.Parts.{meaning}
use Rattle.dep_quast.specs.Context.{variables_at, variables_with, writer_values, after_source}
use Rattle.dep_quast.specs.Views.{read_of, claim_of}
use Rattle.dep_quast.proofs.Fits.{within-more, level-within, over-append}
use Rattle.claims.proofs.Found.{IfOk-then}
use Rattle.dep_quast.proofs.writes.rows_after_source.Goals as goal

pub precedence_rows-requires-clause-few : goal.precedence_rows-requires-clause-few
precedence_rows-requires-clause-few c = omega (arith, c.variables_beside-vars.ensures.few)

pub precedence_rows-requires-clause-level_in : goal.precedence_rows-requires-clause-level_in
precedence_rows-requires-clause-level_in c =
    level-within c.args.level (length (common_loops (meaning c.args.program.now) c.args.claimed.now.statement c.args.writer)) (nat_lt c.args.claimed.now.statement c.args.writer) c.requires.level_in

pub precedence_rows-requires-clause-ys_each : goal.precedence_rows-requires-clause-ys_each
precedence_rows-requires-clause-ys_each c = c.requires.point

pub precedence_rows-requires-clause-xs_each : goal.precedence_rows-requires-clause-xs_each
precedence_rows-requires-clause-xs_each c = ap length c.as_slice.ensures.value ∙ c.in_ok-zs.ensures.many

pub precedence_rows-requires-clause-ys_within : goal.precedence_rows-requires-clause-ys_within
precedence_rows-requires-clause-ys_within c =
    within-more (variables_at (meaning c.args.program.now) (read_of c.args.reader)) c.variables_beside-vars.result c.args.claimed.now.point.now (omega (arith, c.variables_beside-vars.ensures.variables)) c.requires.forms

pub precedence_rows-requires-clause-xs_within : goal.precedence_rows-requires-clause-xs_within
precedence_rows-requires-clause-xs_within c =
    subst (AllByRecursion (IsSmallWithin c.variables_beside-vars.result)) (sym c.as_slice.ensures.value)
    (within-more (variables_with (meaning c.args.program.now) (read_of c.args.reader) c.args.writer) c.variables_beside-vars.result c.in_ok-zs.zs.items (omega (arith, c.variables_beside-vars.ensures.variables)) c.in_ok-zs.ensures.over)

pub returns-clause-rows : goal.returns-clause-rows
returns-clause-rows c =
    let program = meaning c.args.program.now in
    let reader = read_of c.args.reader in
    let loops = common_loops program c.args.claimed.now.statement c.args.writer in
    let values = writer_values program reader c.args.writer (variables_with program reader c.args.writer) in
    let order : c.as_slice-2.result.now ≡ order_rows (variables_with program reader c.args.writer) loops c.args.level c.args.claimed.now.point.now values =
    c.as_slice-2.ensures.value ∙ c.in_ok-order.ensures.rows
    ∙ ap (λ (vars : ℕ). order_rows vars loops c.args.level c.args.claimed.now.point.now c.as_slice.result.now) c.variables_beside-vars.ensures.variables
    ∙ ap (order_rows (variables_with program reader c.args.writer) loops c.args.level c.args.claimed.now.point.now) (c.as_slice.ensures.value ∙ c.in_ok-zs.ensures.forms) in
    IfOk-then c.joined.result (λ all. all.items ≡ c.args.rows.now ++ c.as_slice-2.result.now)
    (λ all. all.items ≡ after_source program reader c.args.writer c.args.rows.now (claim_of c.args.claimed.now) c.args.level) c.joined.ensures
    (λ all e. e ∙ ap (λ (rows : List AffineForm). c.args.rows.now ++ rows) order)

pub returns-clause-over : goal.returns-clause-over
returns-clause-over c =
    let vars : ℕ = variables_with (meaning c.args.program.now) (read_of c.args.reader) c.args.writer in
    let order : AllOver vars c.as_slice-2.result.now =
    subst (AllOver vars) (sym c.as_slice-2.ensures.value) (subst (λ (n : ℕ). AllOver n c.in_ok-order.order.items) c.variables_beside-vars.ensures.variables c.in_ok-order.ensures.over) in
    IfOk-then c.joined.result (λ all. all.items ≡ c.args.rows.now ++ c.as_slice-2.result.now) (λ all. AllOver vars all.items) c.joined.ensures
    (λ all e. over-append vars c.args.rows.now c.as_slice-2.result.now all.items e c.requires.rows_over order)
