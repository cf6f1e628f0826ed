use Rattle.std.proofs.Common.{◌≡◌, ◌∙◌, ap, ℕ, length, arith}
use Rattle.std.proofs.lemmas.List.{length-append}
use Rattle.affine_form.specs.Form.{variables}
use Rattle.affine_form.specs.Rows.{widened}
use Rattle.affine_form.proofs.RowLemmas.{length-widened}
use Rattle.affine_program.specs.Parts.{meaning}
use Rattle.claims.proofs.Found.{IfOk-then}
use Rattle.dep_quast.specs.Context.{variables_at}
use Rattle.dep_quast.specs.Views.{read_of}
use Rattle.dep_quast.proofs.Fits.{params-few}
use Rattle.flow_deps.proofs.points.last_value.Goals as goal

pub put-requires-clause-few_forms : goal.put-requires-clause-few_forms
put-requires-clause-few_forms c =
    omega (
      arith,
      ap length c.as_slice.ensures.value,
      ap length c.in_ok-point.ensures,
      length-append c.in_ok-known.known.items c.args.before.now,
      c.in_ok-known.ensures.many,
      ap length c.params.ensures.params,
      params-few c.args.program.now c.params.ensures.kept,
      c.requires.few,
    )

pub returns-clause-over : goal.returns-clause-over
returns-clause-over c =
    let vars : ℕ = c.variables-vars.result in
    IfOk-then c.widened.result (λ value. value ≡ widened vars c.in_ok-last.last) (λ value. variables value ≡ variables_at (meaning c.args.program.now) (read_of c.args.reader)) c.widened.ensures
    (λ value e. ap variables e ∙ length-widened vars c.in_ok-last.last c.in_ok-last.ensures.within ∙ c.variables-vars.ensures.variables)
