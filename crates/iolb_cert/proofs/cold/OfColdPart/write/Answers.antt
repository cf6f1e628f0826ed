use Rattle.std.proofs.Common.{refl}
use Rattle.json_parts.specs.Fields.{object_shape}
use Rattle.json_parts.proofs.Back.{made_read}
use Rattle.iolb_cert.specs.ColdTexts.{cold_fields, cold_made, cold_parts, cold_shape}
use Rattle.iolb_cert.specs.Written.{written_cold}
use Rattle.iolb_cert.proofs.ReadTerms.{entries_fit}
use Rattle.iolb_cert.proofs.cold.OfColdPart.write.Goals as goal

pub write_object-requires-clause-fit : goal.write_object-requires-clause-fit
write_object-requires-clause-fit c =
    let small = c.requires in
    rw (c.sums.ensures, c.shown.ensures)
    (small.inside, ((small.some_scale, small.scale), (entries_fit c.args.part.now.leaves.items small.leaves, ((small.bounds, small.variables), (small.point, (tt, (small.shown, (tt, (small.sums, tt)))))))))

pub returns-clause-read : goal.returns-clause-read
unfolding cold_shape
returns-clause-read c = made_read (object_shape cold_fields) cold_made cold_parts (written_cold c.args.part.now) refl (rw (← c.sums.ensures, ← c.shown.ensures) c.in_ok-value.ensures.read)
