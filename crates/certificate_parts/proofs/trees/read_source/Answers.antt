use Rattle.std.proofs.Common.{Ok, refl}
use Rattle.dep_quast.specs.Tree.{tree_of}
use Rattle.json_values.specs.View.{json_data}
use Rattle.json_parts.specs.Fields.{reads_object}
use Rattle.json_parts.proofs.Failing.{fails_then, hands_on}
use Rattle.certificate_parts.specs.Trees.{source_fields, source_made}
use Rattle.certificate_parts.proofs.trees.read_source.Goals as goal

pub returns-in_err-before : goal.returns-in_err-before
returns-in_err-before c =
    hands_on tree_of c.from_residual.result c.in_err-before.field-0.0 _ c.from_residual.ensures
    (fails_then c.in_err-before.field-0.0 (reads_object source_fields (json_data c.args.value.now)) (λ b. Ok (source_made b)) c.in_err-before.ensures)

pub returns : goal.returns
returns c =
    let said = c.in_ok-before.ensures in
    rw said.1 (rw (said.2.0, said.2.1.0, said.2.1.1.0, said.2.1.1.1.0, said.2.1.1.1.1.0, said.2.1.1.1.1.1.0, said.2.1.1.1.1.1.1.0) refl)
