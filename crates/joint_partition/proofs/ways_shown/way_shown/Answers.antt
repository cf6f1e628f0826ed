use Rattle.std.proofs.Common.{◌≡◌, ◌∙◌, sym, ap, List, length}
use Rattle.std.specs.Global.{Global}
use Rattle.std.specs.Prelude.{Box, Option, Vec, option_map}
use Rattle.std.proofs.lemmas.List.{length-map}
use Rattle.iolb_model.specs.Form.{AffineForm}
use Rattle.reuse_paths.specs.declared.walk.Region.{Region}
use Rattle.reuse_paths.specs.Families.{boxed_forms}
use Rattle.reuse_paths.specs.Walks.{boxed_region}
use Rattle.joint_partition.specs.Term.{LabelForms, labels_of}
use Rattle.joint_partition.specs.View.{family_of, way_of}
use Rattle.joint_partition.proofs.WaySettings.{labeled-many}
use Rattle.joint_partition.proofs.ways_shown.way_shown.Goals as goal

pub nodes_shown-requires-clause-one_each : goal.nodes_shown-requires-clause-one_each
nodes_shown-requires-clause-one_each c =
    let way = way_of c.args.way.now in
    let own : LabelForms = labels_of (family_of c.args.family.now) way.labels in
    let labels : length c.as_slice-labels.result.now ≡ length own.nodes =
    ap (λ (held : List (Option (Box (Vec AffineForm Global) Global))). length held) c.as_slice-labels.ensures.value
    ∙ sym (length-map c.labeling_at-own.result.now.nodes.items (option_map boxed_forms)) ∙ ap (λ (forms : LabelForms). length forms.nodes) c.labeling_at-own.ensures in
    let regions : length c.as_slice-regions.result.now ≡ length way.regions =
    ap (λ (held : List (Option (Box Region Global))). length held) c.as_slice-regions.ensures.value ∙ sym (length-map c.args.way.now.regions.items (option_map boxed_region)) in
    labels ∙ labeled-many own.nodes way.regions c.requires.way.labeled ∙ sym regions
