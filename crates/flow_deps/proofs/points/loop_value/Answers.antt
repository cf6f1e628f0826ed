use Rattle.std.proofs.Common.{◌∙◌, ap, sym, subst, ◌+◌, length, arith}
use Rattle.std.specs.List.{AllByRecursion}
use Rattle.iolb_model.specs.Program.{Access}
use Rattle.affine_form.specs.Rows.{IsSmallOver}
use Rattle.affine_program.specs.Parts.{meaning}
use Rattle.dep_quast.specs.Context.{variables_at}
use Rattle.dep_quast.specs.Views.{read_of}
use Rattle.dep_quast.proofs.Fits.{read-over, depth-few}
use Rattle.flow_deps.proofs.PointLaws.{subscript-has}
use Rattle.flow_deps.proofs.points.loop_value.Goals as goal

pub returns-in-Some-clause-over : goal.returns-in-Some-clause-over
returns-in-Some-clause-over c =
    let program = meaning c.args.program.now in
    let reader = read_of c.args.reader in
    let is = c.params-params.ensures.kept in
    let reads = c.as_slice-reads.ensures.value ∙ ap (λ (a : Access). a.subscripts) c.reference.ensures in
    (subscript-has (IsSmallOver (variables_at program reader)) (length c.params-params.result.now + length c.args.before.now) c.as_slice-writes.result.now c.as_slice-reads.result.now c.in-Some.value
    (sym c.in_ok-value.ensures ∙ c.in-Some.is) (subst (AllByRecursion (IsSmallOver (variables_at program reader))) (sym reads) (read-over c.args.program.now is reader c.requires.read))).over

pub last_value-requires-clause-few : goal.last_value-requires-clause-few
last_value-requires-clause-few c = omega (arith, c.requires.few, depth-few c.args.program.now c.params-params.ensures.kept c.args.writer c.requires.writer)
