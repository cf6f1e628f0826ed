use Rattle.std.proofs.Common.{refl, arith}
use Rattle.std.proofs.lemmas.List.{length-map}
use Rattle.base_laws.proofs.Lists.{All-every}
use Rattle.json_parts.specs.Fields.{object_shape}
use Rattle.json_parts.proofs.Back.{made_read}
use Rattle.joint_partition.specs.Limits.{IsSmallLabeling, IsSmallStart, IsSmallWay}
use Rattle.joint_partition.specs.View.{family_of, labeling_of, start_of, way_of}
use Rattle.joint_text.specs.Families.{joint_family_fields, family_made, family_parts, family_shape}
use Rattle.json_parts.proofs.Related.{each-of}
use Rattle.joint_text.proofs.families.OfFamilyPart.write.Goals as goal

pub write_object-requires-clause-fit : goal.write_object-requires-clause-fit
write_object-requires-clause-fit c =
    let small = c.requires in
    let part = c.args.part.now in
    let labels_many = length-map part.labels.items labeling_of in
    let ways_many = length-map part.ways.items way_of in
    rw c.coords.ensures (
      (omega arith, omega (arith, small.group)),
      (
        record {
          all = each-of labeling_of IsSmallLabeling part.labels.items small.labels;
          few = omega (arith, labels_many, small.few_labels);
          some = omega (arith, labels_many, small.some_labels);
        },
        (
          (small.some_scale, small.scale),
          (
            All-every (λ n. Unit {0}) (λ n. tt) part.set,
            (
              each-of start_of IsSmallStart part.starts.items small.starts,
              (
                record {
                  all = each-of way_of IsSmallWay part.ways.items small.ways;
                  few = omega (arith, ways_many, small.few_ways);
                  some = omega (arith, ways_many, small.some_ways);
                },
                ((small.some_weight, small.weight), tt),
              ),
            ),
          ),
        ),
      ),
    )

pub returns-clause-read : goal.returns-clause-read
unfolding family_shape
returns-clause-read c = made_read (object_shape joint_family_fields) family_made family_parts (family_of c.args.part.now) refl (rw (← c.coords.ensures) c.in_ok-value.ensures.read)
