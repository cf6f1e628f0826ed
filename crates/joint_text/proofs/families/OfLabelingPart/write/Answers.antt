use Rattle.std.proofs.Common.{List, Vec, Global, map, refl, subst}
use Rattle.std.specs.Prelude.{Box, Option, option_map}
use Rattle.iolb_model.specs.Form.{AffineForm}
use Rattle.reuse_paths.specs.Families.{boxed_forms}
use Rattle.json_parts.specs.Fields.{object_shape}
use Rattle.json_parts.specs.Shape.{IsReadBack}
use Rattle.json_parts.proofs.Back.{made_read}
use Rattle.certificate_parts.proofs.ReadRecords.{labels_fit}
use Rattle.joint_partition.specs.Term.{LabelForms}
use Rattle.joint_partition.specs.View.{labeling_of}
use Rattle.joint_text.specs.Families.{labeling_fields, labeling_made, labeling_shape}
use Rattle.joint_text.proofs.families.OfLabelingPart.write.Goals as goal

abbrev Labels : Type 0
Labels = Vec (Option (Box (Vec AffineForm Global) Global)) Global

abbrev IsBack : Labels → Labels → Type 0
IsBack inputs nodes = IsReadBack (object_shape labeling_fields) (map (option_map boxed_forms) inputs.items, (map (option_map boxed_forms) nodes.items, tt))

pub write_object-requires-clause-fit : goal.write_object-requires-clause-fit
write_object-requires-clause-fit c =
    rw (c.put_part-all.ensures.value, c.put_part-all.ensures.rest, c.put_part-rest.ensures.value)
    (labels_fit c.args.part.now.inputs.items c.requires.1, (labels_fit c.args.part.now.nodes.items c.requires.0, tt))

pub returns-clause-read : goal.returns-clause-read
unfolding labeling_shape
returns-clause-read c =
    let back = subst (λ rest. IsBack c.put_part-all.result.value.now rest.value.now) c.put_part-all.ensures.rest c.in_ok-value.ensures.read in
    let back = subst (λ (inputs : Labels). IsBack inputs c.put_part-rest.result.value.now) c.put_part-all.ensures.value back in
    made_read (object_shape labeling_fields) labeling_made (λ (labels : LabelForms). (labels.inputs, (labels.nodes, tt))) (labeling_of c.args.part.now) refl
    (subst (IsBack c.args.part.now.inputs) c.put_part-rest.ensures.value back)
