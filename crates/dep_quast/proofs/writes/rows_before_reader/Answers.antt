use Rattle.std.proofs.Common.{◌≡◌, ◌∙◌, ◌++◌, ap, sym, subst, arith, ℕ, nat_lt, length, List}
use Rattle.std.specs.List.{AllByRecursion}
use Rattle.iolb_model.specs.Form.{AffineForm}
use Rattle.iolb_model.specs.Order.{common_loops}
use Rattle.affine_form.specs.Rows.{IsSmallWithin, order_rows}
use Rattle.affine_form.specs.System.{AllOver}
use Rattle.affine_program.specs.Parts.{meaning}
use Rattle.dep_quast.specs.Context.{variables_with, reader_values, writer_values, before_reader}
use Rattle.dep_quast.specs.Views.{read_of}
use Rattle.dep_quast.proofs.Fits.{within-more, level-within, over-append}
use Rattle.claims.proofs.Found.{IfOk-then}
use Rattle.dep_quast.proofs.writes.rows_before_reader.Goals as goal

pub values_of_reader-requires-clause-few : goal.values_of_reader-requires-clause-few
values_of_reader-requires-clause-few c = omega (arith, c.variables_beside-vars.ensures.few)

pub values_of_reader-requires-clause-room : goal.values_of_reader-requires-clause-room
values_of_reader-requires-clause-room c = omega (arith, c.variables_beside-vars.ensures.variables)

pub precedence_rows-requires-clause-few : goal.precedence_rows-requires-clause-few
precedence_rows-requires-clause-few c = omega (arith, c.variables_beside-vars.ensures.few)

pub precedence_rows-requires-clause-level_in : goal.precedence_rows-requires-clause-level_in
precedence_rows-requires-clause-level_in c =
    level-within c.args.level (length (common_loops (meaning c.args.program.now) c.args.writer c.args.reader.statement)) (nat_lt c.args.writer c.args.reader.statement) c.requires.level_in

pub precedence_rows-requires-clause-ys_each : goal.precedence_rows-requires-clause-ys_each
precedence_rows-requires-clause-ys_each c = ap length c.as_slice.ensures.value ∙ c.in_ok-zs.ensures.many

pub precedence_rows-requires-clause-xs_each : goal.precedence_rows-requires-clause-xs_each
precedence_rows-requires-clause-xs_each c = ap length c.as_slice-2.ensures.value ∙ c.in_ok-xs.ensures.many

pub precedence_rows-requires-clause-ys_within : goal.precedence_rows-requires-clause-ys_within
precedence_rows-requires-clause-ys_within c =
    subst (AllByRecursion (IsSmallWithin c.variables_beside-vars.result)) (sym c.as_slice.ensures.value)
    (within-more (variables_with (meaning c.args.program.now) (read_of c.args.reader) c.args.writer) c.variables_beside-vars.result c.in_ok-zs.zs.items (omega (arith, c.variables_beside-vars.ensures.variables)) c.in_ok-zs.ensures.over)

pub precedence_rows-requires-clause-xs_within : goal.precedence_rows-requires-clause-xs_within
precedence_rows-requires-clause-xs_within c =
    subst (AllByRecursion (IsSmallWithin c.variables_beside-vars.result)) (sym c.as_slice-2.ensures.value)
    (within-more c.variables_beside-vars.result c.variables_beside-vars.result c.in_ok-xs.xs.items (omega arith) c.in_ok-xs.ensures.over)

pub returns-clause-rows : goal.returns-clause-rows
returns-clause-rows c =
    let program = meaning c.args.program.now in
    let reader = read_of c.args.reader in
    let all : ℕ = variables_with program reader c.args.writer in
    let loops = common_loops program c.args.writer reader.statement in
    let ys = writer_values program reader c.args.writer all in
    let order : c.as_slice-3.result.now ≡ order_rows all loops c.args.level ys (reader_values program reader all) =
    c.as_slice-3.ensures.value ∙ c.in_ok-order.ensures.rows
    ∙ ap (λ (zs : List AffineForm). order_rows c.variables_beside-vars.result loops c.args.level zs c.as_slice-2.result.now) (c.as_slice.ensures.value ∙ c.in_ok-zs.ensures.forms)
    ∙ ap (λ (xs : List AffineForm). order_rows c.variables_beside-vars.result loops c.args.level ys xs) (c.as_slice-2.ensures.value ∙ c.in_ok-xs.ensures.forms)
    ∙ ap (λ (vars : ℕ). order_rows vars loops c.args.level ys (reader_values program reader vars)) c.variables_beside-vars.ensures.variables in
    IfOk-then c.joined.result (λ all. all.items ≡ c.args.rows.now ++ c.as_slice-3.result.now)
    (λ all. all.items ≡ (before_reader program reader c.args.writer c.args.rows.now c.args.level).rows) c.joined.ensures
    (λ all e. e ∙ ap (λ (rows : List AffineForm). c.args.rows.now ++ rows) order)

pub returns-clause-over : goal.returns-clause-over
returns-clause-over c =
    let vars : ℕ = variables_with (meaning c.args.program.now) (read_of c.args.reader) c.args.writer in
    let order : AllOver vars c.as_slice-3.result.now =
    subst (AllOver vars) (sym c.as_slice-3.ensures.value) (subst (λ (n : ℕ). AllOver n c.in_ok-order.order.items) c.variables_beside-vars.ensures.variables c.in_ok-order.ensures.over) in
    IfOk-then c.joined.result (λ all. all.items ≡ c.args.rows.now ++ c.as_slice-3.result.now) (λ all. AllOver vars all.items) c.joined.ensures
    (λ all e. over-append vars c.args.rows.now c.as_slice-3.result.now all.items e c.requires.rows_over order)
