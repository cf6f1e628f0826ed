use Rattle.std.proofs.Common.{refl}
use Rattle.json_parts.specs.Fields.{object_shape}
use Rattle.json_parts.proofs.Back.{made_read}
use Rattle.iolb_cert.specs.FrontTexts.{front_fields, front_made, front_parts, front_shape}
use Rattle.iolb_cert.specs.Written.{written_front}
use Rattle.iolb_cert.proofs.ReadTerms.{entries_fit, way_fits, source_fits}
use Rattle.iolb_cert.proofs.front.OfFrontPart.write.Goals as goal

pub write_object-requires-clause-fit : goal.write_object-requires-clause-fit
write_object-requires-clause-fit c =
    let small = c.requires in
    rw (c.sums.ensures, c.shown.ensures) (
      small.back,
      (
        entries_fit c.args.part.now.edge.items small.edge,
        (
          small.inside,
          (
            (small.some_scale, small.scale),
            (
              (small.bounds, small.variables),
              (
                tt,
                (small.outer_sums, (way_fits c.args.part.now.reach small.reach, (tt, (small.shown, (source_fits c.args.part.now.source small.source, (small.sums, (small.user, (small.vertex, tt)))))))),
              ),
            ),
          ),
        ),
      ),
    )

pub returns-clause-read : goal.returns-clause-read
unfolding front_shape
returns-clause-read c = made_read (object_shape front_fields) front_made front_parts (written_front c.args.part.now) refl (rw (← c.sums.ensures, ← c.shown.ensures) c.in_ok-value.ensures.read)
