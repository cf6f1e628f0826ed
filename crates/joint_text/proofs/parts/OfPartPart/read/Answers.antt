use Rattle.std.proofs.Common.{refl}
use Rattle.json_values.specs.View.{json_data}
use Rattle.json_parts.specs.Fields.{reads_object}
use Rattle.json_parts.proofs.Failing.{made_fails}
use Rattle.joint_text.specs.Parts.{part_fields, part_made, part_shape}
use Rattle.joint_text.proofs.parts.OfPartPart.read.Goals as goal

pub returns-in_err-inside : goal.returns-in_err-inside
unfolding part_shape
returns-in_err-inside c = made_fails _ c.from_residual.result c.in_err-inside.field-0.0 (reads_object part_fields (json_data c.args.value.now)) part_made c.from_residual.ensures c.in_err-inside.ensures

pub returns : goal.returns
unfolding part_shape
returns c =
    let said = c.in_ok-inside.ensures in
    let are = said.2 in (
      part_made said.0,
      rw said.1 refl,
      record { claims = rw (c.new.ensures, are.0, are.1.0, are.1.1.0, are.1.1.1.0, are.1.1.1.1.0, are.1.1.1.1.1.0) refl; sums = rw c.new.ensures are.1.1.1.1.1.1.0 },
    )
