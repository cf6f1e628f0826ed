use Rattle.std.proofs.Common.{refl}
use Rattle.json_values.specs.View.{json_data}
use Rattle.json_parts.specs.Fields.{reads_object}
use Rattle.json_parts.proofs.Failing.{made_fails}
use Rattle.iolb_cert.specs.PartitionTexts.{partition_fields, partition_made, members_shape}
use Rattle.k_partition.specs.View.{credit_term_of}
use Rattle.joint_text.specs.Joint.{IsCreditTerm}
use Rattle.json_parts.proofs.Related.{all-mapped}
use Rattle.iolb_cert.proofs.partition.OfMembersPart.read.Goals as goal

pub returns-in_err-a : goal.returns-in_err-a
unfolding members_shape
returns-in_err-a c = made_fails _ c.from_residual.result c.in_err-a.field-0.0 (reads_object partition_fields (json_data c.args.value.now)) partition_made c.from_residual.ensures c.in_err-a.ensures

pub returns : goal.returns
unfolding members_shape
returns c =
    let said = c.in_ok-a.ensures in
    let are = said.2 in (
      partition_made said.0,
      rw said.1 refl,
      record {
        claims = rw (c.new.ensures, are.0, are.1.0, are.1.1.0, are.1.1.1.1.0, are.1.1.1.1.1.0, are.1.1.1.1.1.1.0, are.1.1.1.1.1.1.1.0, are.1.1.1.1.1.1.1.1.0, are.1.1.1.1.1.1.1.1.1.0, are.1.1.1.1.1.1.1.1.1.1.0, are.1.1.1.1.1.1.1.1.1.1.1.0, are.1.1.1.1.1.1.1.1.1.1.1.1.0) refl;
        sums = rw c.new.ensures are.1.1.1.1.1.1.1.1.1.1.1.1.1.0;
        credits = all-mapped IsCreditTerm credit_term_of said.0.1.1.1.0 c.in_ok-a.credits.items are.1.1.1.0;
      },
    )
