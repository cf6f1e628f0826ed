use Rattle.std.proofs.Common.{Ok, refl}
use Rattle.json_values.specs.View.{json_data}
use Rattle.json_parts.specs.Fields.{reads_object}
use Rattle.json_parts.specs.Related.{plain_link}
use Rattle.json_parts.proofs.Failing.{fails_then, hands_on_by}
use Rattle.joint_partition.specs.View.{family_of}
use Rattle.joint_text.specs.Families.{joint_family_fields, family_made, family_shape}
use Rattle.joint_text.proofs.families.OfFamilyPart.read.Goals as goal

pub returns-in_err-group : goal.returns-in_err-group
unfolding family_shape
returns-in_err-group c =
    hands_on_by (plain_link family_of).Is c.from_residual.result c.in_err-group.field-0.0 _ c.from_residual.ensures
    (fails_then c.in_err-group.field-0.0 (reads_object joint_family_fields (json_data c.args.value.now)) (λ b. Ok (family_made b)) c.in_err-group.ensures)

pub returns : goal.returns
unfolding family_shape
returns c =
    let said = c.in_ok-group.ensures in (
      family_made said.0,
      rw said.1 refl,
      rw (said.2.0, said.2.1.0, said.2.1.1.0, said.2.1.1.1.0, said.2.1.1.1.1.0, said.2.1.1.1.1.1.0, said.2.1.1.1.1.1.1.0, c.new.ensures) refl,
    )
