-- The settings of walks that go on in the regions of a way fit.
use Rattle.std.proofs.Common.{◌≡◌, refl, sym, ◌∙◌, ap, subst, ℕ, ◌+◌, ◌<◌, List, [], ◌∷◌, length, map, arith}
use Rattle.std.specs.Prelude.{Option, None, Some, option_map}
use Rattle.std.specs.List.{AllByRecursion}
use Rattle.std.proofs.lemmas.List.{length-map}
use Rattle.base_laws.proofs.Lists.{All-at, cons-same}
use Rattle.iolb_model.specs.Form.{AffineForm}
use Rattle.iolb_model.specs.Program.{AffineProgram}
use Rattle.affine_form.specs.Form.{IsSmallForm}
use Rattle.affine_form.specs.System.{AllOver}
use Rattle.affine_program.specs.Domain.{depth_of}
use Rattle.dep_quast.specs.Tree.{SelectionTree}
use Rattle.dep_quast.specs.Trees.{RowsFit}
use Rattle.reuse_paths.specs.Families.{CreditedNest, node_label, node_region}
use Rattle.reuse_paths.specs.FamilyClaims.{family_setting}
use Rattle.reuse_paths.specs.WalkFits.{AreInstanceLabels, CreditFits, LabelsFit}
use Rattle.reuse_paths.specs.WalkSettings.{KeptLabels, WalkSetting, keeps}
use Rattle.reuse_paths.specs.WalkViews.{ReadingFits, SettingFits}
use Rattle.reuse_paths.specs.Walks.{WalkRegion}
use Rattle.reuse_paths.proofs.FamilyParts.{nodes-rows}
use Rattle.iolb_model.specs.declared.limits.TheConstants.{PUT_SIZE}
use Rattle.joint_partition.specs.Claims.{setting_of}
use Rattle.joint_partition.specs.FamiliesFit.{AreLabeled, FitsFamily, IsLabeled, LabelingFits, WayFits}
use Rattle.joint_partition.specs.Term.{JointFamily, JointTerm, LabelForms, WayTerm, credited_nests, labels_of, no_labels, no_way, way_at, way_node, way_nodes, way_walks}
use Rattle.joint_partition.proofs.PartWalks.{nodes-have}

-- ---- nodes of a way

region-has : (label : Option (List AffineForm)) (region : Option WalkRegion) → IsLabeled label region → node_region (option_map (way_node region) label) ≡ region
region-has None None h = refl
region-has None (Some region) h = absurd h
region-has (Some label) None h = refl
region-has (Some label) (Some region) h = refl

-- where regions stand only on labels, the nodes have all of them
pub regions-have : (labels : List (Option (List AffineForm))) (regions : List (Option WalkRegion)) → AreLabeled labels regions → map node_region (way_nodes labels regions) ≡ regions
regions-have [] [] h = refl
regions-have [] (region ∷ regions) h = absurd h
regions-have (label ∷ labels) [] h = absurd h
regions-have (label ∷ labels) (region ∷ regions) h = cons-same _ _ _ _ (region-has label region h.0) (regions-have labels regions h.1)

-- the lists are of one length
pub labeled-many : (labels : List (Option (List AffineForm))) (regions : List (Option WalkRegion)) → AreLabeled labels regions → length labels ≡ length regions
labeled-many [] [] h = refl
labeled-many [] (region ∷ regions) h = absurd h
labeled-many (label ∷ labels) [] h = absurd h
labeled-many (label ∷ labels) (region ∷ regions) h = omega (arith, labeled-many labels regions h.1)

-- labels and regions apart are a setting of these nodes
pub way-setting : (program : AffineProgram) (trees : List (List SelectionTree)) (credits : List CreditedNest) (family : JointFamily) (way : WayTerm) (reader : List AffineForm)
    (none : List (AffineForm × AffineForm)) (labels inputs : List (Option (List AffineForm))) (regions : List (Option WalkRegion)) → none ≡ [] → labels ≡ (labels_of family way.labels).nodes
    → inputs ≡ (labels_of family way.labels).inputs → regions ≡ way.regions → AreLabeled (labels_of family way.labels).nodes way.regions
    → record {
      program = program;
      trees = trees;
      nest = none;
      nodes = regions;
      aim = keeps (record { reader = reader; instances = labels; cells = inputs; credits = credits });
    } ≡ family_setting program trees credits (way_walks family way) reader
way-setting program trees credits family way reader none labels inputs regions flat own-labels own-inputs own-regions labeled =
    let own : LabelForms = labels_of family way.labels in
    let nodes : regions ≡ map node_region (way_nodes own.nodes way.regions) = own-regions ∙ sym (regions-have own.nodes way.regions labeled) in
    let instances : labels ≡ map node_label (way_nodes own.nodes way.regions) = own-labels ∙ sym (nodes-have own.nodes way.regions) in
    λ i. record {
      program = program;
      trees = trees;
      nest = flat i;
      nodes = nodes i;
      aim = keeps (record { reader = reader; instances = instances i; cells = own-inputs i; credits = credits });
    }

-- ---- what fits

plain : (n : ℕ) → n ≡ n + 0
plain n = omega arith

-- the labeling and the way with a number
pub labels-at : (program : AffineProgram) (trees : List (List SelectionTree)) (term : JointTerm) (family : JointFamily) (number : ℕ) → FitsFamily program trees term family
    → number < length family.labels → LabelingFits program (length family.set) (labels_of family number)
labels-at program trees term family number fits below = All-at (LabelingFits program (length family.set)) family.labels number no_labels fits.labels below

pub way-fits : (program : AffineProgram) (trees : List (List SelectionTree)) (term : JointTerm) (family : JointFamily) (number : ℕ) → FitsFamily program trees term family
    → number < length family.ways → WayFits program trees term family (way_at family number)
way-fits program trees term family number fits below = All-at (WayFits program trees term family) family.ways number no_way fits.ways below

module _ (program : AffineProgram) (trees : List (List SelectionTree)) (term : JointTerm) (family : JointFamily) (way : WayTerm) (trees-fit : RowsFit program 0 trees)
    (credits : AllByRecursion (CreditFits program) (credited_nests term)) (fits : FitsFamily program trees term family) (fits-way : WayFits program trees term family way) where
  abbrev setting : List AffineForm → WalkSetting
  setting reader = setting_of program trees term (way_walks family way) reader

  abbrev kept : List AffineForm → KeptLabels
  kept reader = record { reader = reader; instances = map node_label (way_walks family way).nodes; cells = (way_walks family way).inputs; credits = credited_nests term }

  own : LabelingFits program (length family.set) (labels_of family way.labels)
  own = labels-at program trees term family way.labels fits fits-way.there

  -- the labels of the nodes are those of the labeling
  same : map node_label (way_walks family way).nodes ≡ (labels_of family way.labels).nodes
  same = nodes-have (labels_of family way.labels).nodes way.regions

  pub kept-fit : (reader : List AffineForm) → LabelsFit program (length family.set) (kept reader)
  kept-fit reader = record {
    instances = subst (AreInstanceLabels program (length family.set) 0) (sym same) own.instances;
    each = ap (λ (labels : List (Option (List AffineForm))). length labels) same ∙ own.each;
    cells = own.cells;
    credits = credits;
  }

  pub setting-fits : (reader : List AffineForm) → length reader ≡ length family.set → SettingFits (setting reader)
  setting-fits reader size = record {
    ends = record { nest = record { few = omega arith; bounds = tt }; aim = (refl, subst (λ (n : ℕ). LabelsFit program n (kept reader)) (sym size) (kept-fit reader)) };
    trees = trees-fit;
    each = length-map (way_walks family way).nodes node_region ∙ sym (length-map (way_walks family way).nodes node_label) ∙ (kept-fit reader).each;
    rows = nodes-rows program trees (credited_nests term) (way_walks family way) reader 0 (way_walks family way).nodes fits-way.walks;
  }

  -- at readers of a statement with a label over the parameters and the loop values
  pub way-reading : (reader : List AffineForm) (statement : ℕ) → length reader ≡ length family.set → statement < length program.statements
      → AllOver (length program.parameters + depth_of program statement) reader → AllByRecursion (IsSmallForm PUT_SIZE) reader → ReadingFits (setting reader) statement
  way-reading reader statement size there over small = record {
    setting = setting-fits reader size;
    there = there;
    reader = (subst (λ (n : ℕ). AllOver (n + depth_of program statement) reader) (plain (length program.parameters)) over, small);
  }
