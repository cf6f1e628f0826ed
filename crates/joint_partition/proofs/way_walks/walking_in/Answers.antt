use Rattle.std.proofs.Common.{◌≡◌, ◌∙◌, ap, map}
use Rattle.std.specs.Prelude.{option_map}
use Rattle.affine_program.specs.Parts.{meaning}
use Rattle.dep_quast.specs.Quasts.{trees_of}
use Rattle.reuse_paths.specs.Families.{boxed_forms, credit_of}
use Rattle.reuse_paths.specs.Walks.{boxed_region}
use Rattle.joint_partition.specs.Term.{LabelForms, labels_of}
use Rattle.joint_partition.specs.View.{family_of, labeling_of, way_of}
use Rattle.joint_partition.proofs.WaySettings.{way-setting}
use Rattle.joint_partition.proofs.way_walks.walking_in.Goals as goal

pub returns-clause-setting : goal.returns-clause-setting
returns-clause-setting c =
    let family = family_of c.args.family.now in
    let own : labeling_of c.labeling_at-own.result.now ≡ labels_of family c.args.way.now.labels = c.labeling_at-own.ensures in
    way-setting (meaning c.args.program.now) (trees_of c.args.quasts.now) (map credit_of c.args.credits.now) family (way_of c.args.way.now) c.args.reader.now c.args.none.now
    (map (option_map boxed_forms) c.as_slice-labels.result.now) (map (option_map boxed_forms) c.as_slice-inputs.result.now) (map (option_map boxed_region) c.as_slice-regions.result.now) c.requires.none
    (ap (map (option_map boxed_forms)) c.as_slice-labels.ensures.value ∙ ap (λ (labels : LabelForms). labels.nodes) own)
    (ap (map (option_map boxed_forms)) c.as_slice-inputs.ensures.value ∙ ap (λ (labels : LabelForms). labels.inputs) own) (ap (map (option_map boxed_region)) c.as_slice-regions.ensures.value) c.requires.labeled
