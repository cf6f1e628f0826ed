use Rattle.std.proofs.Common.{refl}
use Rattle.json_parts.specs.Fields.{object_shape}
use Rattle.json_parts.proofs.Back.{made_read}
use Rattle.joint_text.specs.Parts.{part_fields, part_made, part_members, part_shape, written_part}
use Rattle.joint_text.proofs.parts.OfPartPart.write.Goals as goal

pub returns-clause-read : goal.returns-clause-read
unfolding part_shape
returns-clause-read c = made_read (object_shape part_fields) part_made part_members (written_part c.args.part.now) refl (rw (← c.sums.ensures, ← c.shown.ensures) c.in_ok-value.ensures.read)
