use Rattle.std.proofs.Common.{refl}
use Rattle.json_values.specs.View.{json_data}
use Rattle.json_parts.specs.Fields.{reads_object}
use Rattle.json_parts.proofs.Failing.{made_fails}
use Rattle.k_partition.specs.View.{credit_term_of}
use Rattle.json_parts.proofs.Related.{all-mapped}
use Rattle.joint_partition.specs.View.{part_of}
use Rattle.joint_text.specs.Joint.{IsCreditTerm, joint_fields, joint_made, members_shape}
use Rattle.joint_text.specs.Parts.{IsPart}
use Rattle.joint_text.proofs.joint.OfMembersPart.read.Goals as goal

pub returns-in_err-a : goal.returns-in_err-a
unfolding members_shape
returns-in_err-a c = made_fails _ c.from_residual.result c.in_err-a.field-0.0 (reads_object joint_fields (json_data c.args.value.now)) joint_made c.from_residual.ensures c.in_err-a.ensures

pub returns : goal.returns
unfolding members_shape
returns c =
    let said = c.in_ok-a.ensures in
    let are = said.2 in (
      joint_made said.0,
      rw said.1 refl,
      record {
        parts = all-mapped IsPart part_of said.0.1.1.1.1.1.1.0 _ are.1.1.1.1.1.1.0;
        distinct = rw are.1.1.1.1.0 refl;
        q = rw are.1.1.1.1.1.1.1.0 refl;
        a = rw are.0 refl;
        b = rw are.1.1.0 refl;
        credits = all-mapped IsCreditTerm credit_term_of said.0.1.1.1.0 c.in_ok-a.credits.items are.1.1.1.0;
        families = rw are.1.1.1.1.1.0 refl;
        apart = rw are.1.0 refl;
      },
    )
