use Rattle.std.proofs.Common.{map, refl, arith}
use Rattle.std.proofs.lemmas.Bool.{le-leb}
use Rattle.iolb_model.specs.declared.limits.TheConstants.{FAMILIES}
use Rattle.joint_partition.specs.declared.limits.TheConstants.{JOINT_WEIGHTS}
use Rattle.joint_partition.specs.Limits.{IsSmallJointFamily}
use Rattle.joint_partition.specs.View.{family_of}
use Rattle.joint_text.specs.Families.{families_shape, family_shape, weights_of}
use Rattle.json_parts.proofs.Back.{one_to_most_read}
use Rattle.json_parts.proofs.Related.{each-of}
use Rattle.joint_text.proofs.families.OfFamiliesPart.write.Goals as goal

pub write_list-requires : goal.write_list-requires
write_list-requires c = rw c.as_slice.ensures.value (each-of family_of IsSmallJointFamily c.args.part.now.items c.requires.some.all)

pub returns-clause-read : goal.returns-clause-read
unfolding families_shape
returns-clause-read c =
    let families = map family_of c.args.part.now.items in
    let small = c.requires in
    rw (
      one_to_most_read FAMILIES family_shape families small.some.few (λ none. omega (arith, none, small.some.some)) (rw (← c.as_slice.ensures.value) c.in_ok-value.ensures.read),
      le-leb (weights_of families) JOINT_WEIGHTS small.light,
    ) refl
