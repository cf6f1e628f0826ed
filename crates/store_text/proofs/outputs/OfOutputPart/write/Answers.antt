use Rattle.std.proofs.Common.{refl}
use Rattle.json_parts.specs.Fields.{object_shape}
use Rattle.json_parts.proofs.Back.{made_read}
use Rattle.store_text.specs.Outputs.{output_fields, output_made, output_parts, output_shape}
use Rattle.store_text.specs.Read.{written_output}
use Rattle.store_text.proofs.outputs.OfOutputPart.write.Goals as goal

pub write_object-requires-clause-fit : goal.write_object-requires-clause-fit
write_object-requires-clause-fit c =
    let small = c.requires in
    rw (c.sums.ensures, c.shown.ensures)
    (small.inside, ((small.some_scale, small.scale), (small.later, ((small.bounds, small.variables), (small.point, (small.shown, (tt, (small.sums, tt))))))))

pub returns-clause-read : goal.returns-clause-read
unfolding output_shape
returns-clause-read c = made_read (object_shape output_fields) output_made output_parts (written_output c.args.part.now) refl (rw (← c.sums.ensures, ← c.shown.ensures) c.in_ok-value.ensures.read)
