use Rattle.std.proofs.Common.{◌≡◌, ◌∙◌, sym, ap, subst, List, length, map}
use Rattle.std.specs.Global.{Global}
use Rattle.std.specs.Prelude.{Box, Option, Vec, option_map}
use Rattle.std.specs.List.{AllByRecursion}
use Rattle.std.proofs.lemmas.List.{length-map}
use Rattle.affine_program.specs.Parts.{meaning}
use Rattle.dep_quast.specs.Quasts.{trees_of}
use Rattle.iolb_model.specs.Form.{AffineForm}
use Rattle.reuse_paths.specs.declared.walk.Region.{Region}
use Rattle.reuse_paths.specs.Families.{boxed_forms}
use Rattle.reuse_paths.specs.Walks.{boxed_region}
use Rattle.joint_partition.specs.declared.term.Way.{Way}
use Rattle.joint_partition.specs.FamiliesFit.{WayFits}
use Rattle.joint_partition.specs.Term.{LabelForms, labels_of}
use Rattle.joint_partition.specs.View.{family_of, joint_of, way_of}
use Rattle.joint_partition.proofs.WaySettings.{labeled-many}
use Rattle.joint_partition.proofs.pieces.+push_ways.Goals as goal

pub push_nodes-requires-clause-one_each : goal.push_nodes-requires-clause-one_each
push_nodes-requires-clause-one_each t c =
    let way = way_of c.in-Some.way.now in
    let own : LabelForms = labels_of (family_of c.args.family.now) way.labels in
    let labels : length c.as_slice-labels.result.now ≡ length own.nodes =
    ap (λ (held : List (Option (Box (Vec AffineForm Global) Global))). length held) c.as_slice-labels.ensures.value
    ∙ sym (length-map c.labeling_at-own.result.now.nodes.items (option_map boxed_forms)) ∙ ap (λ (forms : LabelForms). length forms.nodes) c.labeling_at-own.ensures in
    let regions : length c.as_slice-regions.result.now ≡ length way.regions =
    ap (λ (held : List (Option (Box Region Global))). length held) c.as_slice-regions.ensures.value ∙ sym (length-map c.in-Some.way.now.regions.items (option_map boxed_region)) in
    let fits = subst (λ (ways : List Way). AllByRecursion (WayFits (meaning c.args.program.now) (trees_of c.args.quasts.now) (joint_of c.args.term.now) (family_of c.args.family.now)) (map way_of ways)) c.in-Some.ensures.cases.0 c.requires.ways in
    labels ∙ labeled-many own.nodes way.regions fits.0.labeled ∙ sym regions
