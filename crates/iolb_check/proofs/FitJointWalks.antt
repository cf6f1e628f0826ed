-- Where what is asked of a joint term's family holds, it fits a program.
use Rattle.std.proofs.Common.{Bool, true, false, ◌≡◌, refl, sym, ◌∙◌, ap, subst, ℕ, zero, suc, ◌+◌, ◌*◌, ◌<◌, ◌≤◌, List, [], ◌∷◌, ◌++◌, length, map, arith, zero-add}
use Rattle.std.specs.Prelude.{Option, None, Some, slice_get, slice_index_or, option_map, codes}
use Rattle.std.specs.Option.{is_some}
use Rattle.std.specs.List.{AllByRecursion}
use Rattle.std.proofs.lemmas.List.{length-map}
use Rattle.base_laws.proofs.Lists.{All-at}
use Rattle.iolb_model.specs.Form.{AffineForm}
use Rattle.iolb_model.specs.Program.{AffineProgram}
use Rattle.iolb_model.specs.declared.limits.TheConstants.{TREE_TESTS}
use Rattle.claims.specs.Claims.{Claim, AllHold, numbered}
use Rattle.claims.specs.declared.place.Step.{Step}
use Rattle.claims.specs.declared.place.Step.TheVariants.{Index, Key}
use Rattle.claims.proofs.Laws.{AllHold-left, AllHold-right}
use Rattle.claims.proofs.Members.{suc-moved}
use Rattle.affine_program.specs.Domain.{depth_of}
use Rattle.dep_quast.specs.Context.{ReadOf}
use Rattle.dep_quast.specs.OpenLeaves.{LeafOrigin, OpenLeaf}
use Rattle.dep_quast.specs.Tree.{SelectionTree}
use Rattle.dep_quast.specs.Trees.{RowsFit, read_of}
use Rattle.reuse_paths.specs.Families.{CreditedNest, NodeForms}
use Rattle.reuse_paths.specs.FamilyFits.{NodeFits, NodesFit}
use Rattle.reuse_paths.specs.LeafClaims.{LeafClaim, no_point, stops, is_credited, goes_on, arrives}
use Rattle.reuse_paths.specs.WalkClaims.{leaves_at}
use Rattle.reuse_paths.specs.WalkFits.{AreInstanceLabels, EntriesFit, EntryFits, IsLabel, IsLabelIf, RegionFits, RegionsFit, WalkFits}
use Rattle.reuse_paths.specs.WalkSettings.{WalkSetting, keeps}
use Rattle.reuse_paths.specs.Walks.{WalkRegion, WalkTree, take, test}
use Rattle.joint_partition.specs.Claims.{setting_of}
use Rattle.joint_partition.specs.FamiliesFit.{AreLabeled, FitsFamily, IsLabeled, LabelingFits, StartFits, StartsFit, WayFits}
use Rattle.joint_partition.specs.JointWords.{dimensions_of}
use Rattle.joint_partition.specs.Limits.{IsSmallJointFamily, IsSmallLabeling, IsSmallStart, IsSmallWay}
use Rattle.joint_partition.specs.Term.{JointFamily, JointTerm, LabelForms, PartTerm, StartTerm, WayTerm, credited_nests, labels_of, no_form, no_labels, no_way, start_label, walks_from, way_at, way_node, way_nodes, way_walks}
use Rattle.joint_partition.proofs.WaySettings.{way-setting}
use Rattle.certificate_fit.specs.FamilyFit.{inputs_fit, instance_fit, instances_fit, label_fit, set_fit}
use Rattle.certificate_fit.specs.FitClaims.{names}
use Rattle.certificate_fit.specs.Limits.{IsSmallLabel, IsSmallNode}
use Rattle.certificate_fit.specs.TreeFit.{trees_fit}
use Rattle.certificate_fit.specs.WalkFit.{region_fit_at, walk_fit}
use Rattle.certificate_fit.proofs.FamilyParts.{cell-labels, label-is, set-below}
use Rattle.certificate_fit.proofs.WalkParts.{region-fits, walk-fits}
use Rattle.iolb_check.specs.JointFit.{all_starts_fit, group_family_at, group_family_fit, group_walks_fit, labeled_fit, labeling_at, labelings_fit, regions_fit, start_fit, starts_fit, walks_in, way_fit_at, ways_fit}

-- ---- walks fit whatever the labels are, if they have as many forms

abbrev setting : AffineProgram → List (List SelectionTree) → List CreditedNest → List (Option WalkRegion) → List AffineForm → LabelForms → WalkSetting
setting program trees credits regions reader labels = record {
  program = program;
  trees = trees;
  nest = [];
  nodes = regions;
  aim = keeps (record { reader = reader; instances = labels.nodes; cells = labels.inputs; credits = credits });
}

module _ (program : AffineProgram) (trees : List (List SelectionTree)) (credits : List CreditedNest) (regions : List (Option WalkRegion)) (one other : List AffineForm) (labels others : LabelForms)
    (same : length one ≡ length other) where
  abbrev here : WalkSetting
  here = setting program trees credits regions one labels

  abbrev there : WalkSetting
  there = setting program trees credits regions other others

  entry-same : (reader : ReadOf) (origin : LeafOrigin) (entry : LeafClaim) → EntryFits here reader origin entry → EntryFits there reader origin entry
  entry-same reader origin (no_point shown) h = tt
  entry-same reader origin (stops label) h = omega (arith, h, same)
  entry-same reader origin (is_credited credit rows label) h = (h.0, omega (arith, h.1, same))
  entry-same reader origin (goes_on rows label) h = (h.0, omega (arith, h.1, same))
  entry-same reader origin (arrives equal) h = h

  entries-same : (reader : ReadOf) (leaves : List OpenLeaf) (entries : List LeafClaim) → EntriesFit here reader leaves entries → EntriesFit there reader leaves entries
  entries-same reader [] [] h = tt
  entries-same reader [] (entry ∷ entries) h = absurd h
  entries-same reader (l ∷ leaves) [] h = absurd h
  entries-same reader (l ∷ leaves) (entry ∷ entries) h = (entry-same reader l.origin entry h.0, entries-same reader leaves entries h.1)

  walk-same : (statement : ℕ) (tree : WalkTree) → WalkFits here statement tree → WalkFits there statement tree
  walk-same statement (take read entries) h =
      record { read_fits = h.read_fits; there = h.there; entries_fit = entries-same (read_of statement read) (leaves_at here (read_of statement read)) entries h.entries_fit }
  walk-same statement (test form above below) h = (h.0, walk-same statement above h.1, walk-same statement below h.2)

  region-same : (statement : ℕ) (region : Option WalkRegion) → RegionFits here statement region → RegionFits there statement region
  region-same statement None h = tt
  region-same statement (Some region) h = (h.0, walk-same statement region.tree h.1)

-- ---- labelings

module _ (program : AffineProgram) (size : ℕ) where
  instance-labels : (place : List Step) (statement : ℕ) (labels : List (Option (List AffineForm))) → AllByRecursion IsSmallLabel labels
      → AllHold (numbered (instance_fit program size place) statement labels) → AreInstanceLabels program size statement labels
  instance-labels place statement [] small h = tt
  instance-labels place statement (None ∷ labels) small h = (tt, instance-labels place (suc statement) labels small.1 h)
  instance-labels place statement (Some label ∷ labels) small h =
      let vars : ℕ = length program.parameters + depth_of program statement in
      let own : List Claim = label_fit size vars (place ++ Index statement ∷ []) label in
      let rest : List Claim = numbered (instance_fit program size place) (suc statement) labels in
      (label-is size vars (place ++ Index statement ∷ []) label small.0 (AllHold-left own rest h), instance-labels place (suc statement) labels small.1 (AllHold-right own rest h))

  labeling-fits : (place : List Step) (index : ℕ) (labels : LabelForms) → IsSmallLabeling labels → AllHold (labeling_at program size place index labels) → LabelingFits program size labels
  labeling-fits place index labels small h =
      let in_inputs : List Step = (place ++ Index index ∷ []) ++ Key (codes "inputs") ∷ [] in
      let in_nodes : List Step = (place ++ Index index ∷ []) ++ Key (codes "nodes") ∷ [] in
      let inputs : List Claim = inputs_fit program in_inputs size labels.inputs in
      let nodes : List Claim = instances_fit program in_nodes size labels.nodes in
      let of_inputs : AllHold inputs = AllHold-left inputs nodes h in
      let of_nodes : AllHold nodes = AllHold-right inputs nodes h in record {
        instances = instance-labels in_nodes 0 labels.nodes small.0 of_nodes.1;
        each = of_nodes.0;
        cells = cell-labels program size in_inputs 0 program.arrays labels.inputs (λ k. ap (slice_get program.arrays) (zero-add k)) of_inputs.0 small.1 of_inputs.1;
      }

  labelings-fit : (place : List Step) (index : ℕ) (labelings : List LabelForms) → AllByRecursion IsSmallLabeling labelings → AllHold (numbered (labeling_at program size place) index labelings)
      → AllByRecursion (LabelingFits program size) labelings
  labelings-fit place index [] small h = tt
  labelings-fit place index (labels ∷ labelings) small h =
      let own : List Claim = labeling_at program size place index labels in
      let rest : List Claim = numbered (labeling_at program size place) (suc index) labelings in
      (labeling-fits place index labels small.0 (AllHold-left own rest h), labelings-fit place (suc index) labelings small.1 (AllHold-right own rest h))

-- ---- regions stand only where there is a label

label-there : (label : Option (List AffineForm)) (region : WalkRegion) → is_some label ≡ true → IsLabeled label (Some region)
label-there None region is = absurd cc
label-there (Some label) region is = tt

none-labeled : (label : Option (List AffineForm)) → IsLabeled label None
none-labeled None = tt
none-labeled (Some label) = tt

bare : (n : ℕ) → n ≡ n + 0
bare n = omega arith

module _ (walk : WalkSetting) (labels : LabelForms) (place : List Step) where
  -- the labels from a statement on
  abbrev Follow : ℕ → List (Option (List AffineForm)) → Type 0
  Follow i rest = (k : ℕ) → slice_index_or labels.nodes (i + k) None ≡ slice_index_or rest k None

  later : (i : ℕ) (label : Option (List AffineForm)) (rest : List (Option (List AffineForm))) → Follow i (label ∷ rest) → Follow (suc i) rest
  later i label rest from k = ap (λ (n : ℕ). slice_index_or labels.nodes n None) (suc-moved i k) ∙ from (suc k)

  are-labeled : (i : ℕ) (rest : List (Option (List AffineForm))) (regions : List (Option WalkRegion)) → Follow i rest → length rest ≡ length regions
      → AllHold (numbered (labeled_fit walk labels place) i regions) → AreLabeled rest regions
  are-labeled i [] [] from many h = tt
  are-labeled i [] (region ∷ regions) from many h = absurd (omega (arith, many))
  are-labeled i (label ∷ rest) [] from many h = absurd (omega (arith, many))
  are-labeled i (label ∷ rest) (None ∷ regions) from many h = (none-labeled label, are-labeled (suc i) rest regions (later i label rest from) (omega (arith, many)) h)
  are-labeled i (label ∷ rest) (Some region ∷ regions) from many h =
      let own : List Claim = labeled_fit walk labels place i (Some region) in
      let others : List Claim = numbered (labeled_fit walk labels place) (suc i) regions in
      let own_label : slice_index_or labels.nodes i None ≡ label = ap (λ (n : ℕ). slice_index_or labels.nodes n None) (bare i) ∙ from 0 in (
        label-there label region (ap is_some (sym own_label) ∙ (AllHold-left own others h).0),
        are-labeled (suc i) rest regions (later i label rest from) (omega (arith, many)) (AllHold-right own others h),
      )

-- ---- ways and starts

module _ (program : AffineProgram) (trees : List (List SelectionTree)) (fit : AllHold (trees_fit program trees)) (rows : RowsFit program 0 trees) (term : JointTerm) (family : JointFamily)
    (labelings : AllByRecursion (LabelingFits program (length family.set)) family.labels) where
  abbrev credits : List CreditedNest
  credits = credited_nests term

  abbrev blank : List AffineForm
  blank = map (λ (i : ℕ). no_form) family.set

  abbrev walks : List (Option WalkRegion) → WalkSetting
  walks regions = walks_in program trees credits family regions

  regions-in : (labels : LabelForms) (all : List (Option WalkRegion)) (place : List Step) (statement : ℕ) (regions : List (Option WalkRegion)) → statement + length regions ≤ length program.statements
      → AllByRecursion IsSmallNode regions → AllHold (numbered (labeled_fit (walks all) labels place) statement regions) → RegionsFit (walks all) statement regions
  regions-in labels all place statement [] le small h = tt
  regions-in labels all place statement (None ∷ regions) le small h = (tt, regions-in labels all place (suc statement) regions (omega (arith, le)) small.1 h)
  regions-in labels all place statement (Some region ∷ regions) le small h =
      let own : List Claim = labeled_fit (walks all) labels place statement (Some region) in
      let rest : List Claim = numbered (labeled_fit (walks all) labels place) (suc statement) regions in (
        region-fits (walks all) fit rows (place ++ Index statement ∷ []) statement (Some region) (omega (arith, le)) small.0 (AllHold-left own rest h).1,
        regions-in labels all place (suc statement) regions (omega (arith, le)) small.1 (AllHold-right own rest h),
      )

  module _ (way : WayTerm) (labeled : AreLabeled (labels_of family way.labels).nodes way.regions) where
    abbrev own : LabelForms
    own = labels_of family way.labels

    -- the setting of readers with a label
    is-setting : (reader : List AffineForm) → setting program trees credits way.regions reader own ≡ setting_of program trees term (way_walks family way) reader
    is-setting reader = way-setting program trees credits family way reader [] own.nodes own.inputs way.regions refl refl refl refl labeled

    walk-in : (reader : List AffineForm) (statement : ℕ) (tree : WalkTree) → length reader ≡ length family.set → WalkFits (walks way.regions) statement tree
        → WalkFits (setting_of program trees term (way_walks family way) reader) statement tree
    walk-in reader statement tree size h =
        subst (λ (walk : WalkSetting). WalkFits walk statement tree) (is-setting reader)
        (walk-same program trees credits way.regions blank reader no_labels own (length-map family.set (λ (i : ℕ). no_form) ∙ sym size) statement tree h)

    region-in : (reader : List AffineForm) (statement : ℕ) (region : Option WalkRegion) → length reader ≡ length family.set → RegionFits (walks way.regions) statement region
        → RegionFits (setting_of program trees term (way_walks family way) reader) statement region
    region-in reader statement region size h =
        subst (λ (walk : WalkSetting). RegionFits walk statement region) (is-setting reader)
        (region-same program trees credits way.regions blank reader no_labels own (length-map family.set (λ (i : ℕ). no_form) ∙ sym size) statement region h)

    nodes-in : (statement : ℕ) (labels : List (Option (List AffineForm))) (regions : List (Option WalkRegion)) → AreInstanceLabels program (length family.set) statement labels
        → length labels ≡ length regions → RegionsFit (walks way.regions) statement regions → NodesFit program trees credits (way_walks family way) statement (way_nodes labels regions)
    nodes-in statement [] [] are many h = tt
    nodes-in statement [] (region ∷ regions) are many h = tt
    nodes-in statement (label ∷ labels) [] are many h = absurd (omega (arith, many))
    nodes-in statement (None ∷ labels) (region ∷ regions) are many h = (tt, nodes-in (suc statement) labels regions are.1 (omega (arith, many)) h.1)
    nodes-in statement (Some label ∷ labels) (region ∷ regions) are many h =
        (region-in label statement region are.0.each h.0, nodes-in (suc statement) labels regions are.1 (omega (arith, many)) h.1)

  way-fits : (place : List Step) (index : ℕ) (way : WayTerm) → IsSmallWay way → AllHold (way_fit_at program trees credits family place index way) → WayFits program trees term family way
  way-fits place index way small h =
      let labels : LabelForms = labels_of family way.labels in
      let own : LabelingFits program (length family.set) labels = All-at (LabelingFits program (length family.set)) family.labels way.labels no_labels labelings h.0 in
      let at : List Step = (place ++ Index index ∷ []) ++ Key (codes "regions") ∷ [] in
      let many : length labels.nodes ≡ length way.regions = own.each ∙ sym h.1.0 in
      let labeled : AreLabeled labels.nodes way.regions =
      are-labeled (walks way.regions) labels at 0 labels.nodes way.regions (λ k. ap (λ (n : ℕ). slice_index_or labels.nodes n None) (zero-add k)) many h.1.1 in record {
        there = h.0;
        labeled = labeled;
        walks = nodes-in way labeled 0 labels.nodes way.regions own.instances many (regions-in labels way.regions at 0 way.regions (omega (arith, h.1.0)) small h.1.1);
      }

  ways-fit : (place : List Step) (index : ℕ) (ways : List WayTerm) → AllByRecursion IsSmallWay ways → AllHold (numbered (way_fit_at program trees credits family place) index ways)
      → AllByRecursion (WayFits program trees term family) ways
  ways-fit place index [] small h = tt
  ways-fit place index (way ∷ ways) small h =
      let own : List Claim = way_fit_at program trees credits family place index way in
      let rest : List Claim = numbered (way_fit_at program trees credits family place) (suc index) ways in
      (way-fits place index way small.0 (AllHold-left own rest h), ways-fit place (suc index) ways small.1 (AllHold-right own rest h))

  module _ (ways : AllByRecursion (WayFits program trees term family) family.ways) where
    start-fits : (place : List Step) (part : PartTerm) (start : StartTerm) → part.statement < length program.statements → IsSmallStart start
        → AllHold (start_fit program trees credits family place part start) → StartFits program trees term family part start
    start-fits place part start there small h =
        let way : WayTerm = way_at family start.way in
        let tree : List Claim = walk_fit (walks way.regions) part.statement (place ++ Key (codes "tree") ∷ []) start.tree in
        let last : List Claim = names (place ++ Key (codes "way") ∷ []) start.way (length family.ways) ∷ [] in
        let entered : start.way < length family.ways = (AllHold-right tree last h).0 in
        let fits : WayFits program trees term family way = All-at (WayFits program trees term family) family.ways start.way no_way ways entered in record {
          entered = entered;
          walk = walk-in way fits.labeled (start_label part family) part.statement start.tree (length-map family.set _)
              (walk-fits (walks way.regions) fit rows TREE_TESTS (place ++ Key (codes "tree") ∷ []) part.statement start.tree there small.nested (AllHold-left tree last h));
        }

    starts-fit : (place : List Step) (index : ℕ) (parts : List PartTerm) (starts : List StartTerm) → length starts ≡ length parts
        → AllByRecursion (λ (part : PartTerm). part.statement < length program.statements) parts → AllByRecursion IsSmallStart starts
        → AllHold (starts_fit program trees credits family place index parts starts) → StartsFit program trees term family parts starts
    starts-fit place index [] [] many there small h = tt
    starts-fit place index [] (start ∷ starts) many there small h = absurd (omega (arith, many))
    starts-fit place index (part ∷ parts) [] many there small h = absurd (omega (arith, many))
    starts-fit place index (part ∷ parts) (start ∷ starts) many there small h =
        let own : List Claim = start_fit program trees credits family (place ++ Index index ∷ []) part start in
        let rest : List Claim = starts_fit program trees credits family place (suc index) parts starts in (
          start-fits (place ++ Index index ∷ []) part start there.0 small.0 (AllHold-left own rest h),
          starts-fit place (suc index) parts starts (omega (arith, many)) there.1 small.1 (AllHold-right own rest h),
        )

-- ---- families

module _ (program : AffineProgram) (trees : List (List SelectionTree)) (fit : AllHold (trees_fit program trees)) (rows : RowsFit program 0 trees) (term : JointTerm)
    (there : AllByRecursion (λ (part : PartTerm). part.statement < length program.statements) term.parts) where
  family-fits : (place : List Step) (family : JointFamily) → IsSmallJointFamily family → AllHold (group_family_fit program trees term place family) → FitsFamily program trees term family
  family-fits place family small h =
      let size : ℕ = length family.set in
      let labels : List Claim = labelings_fit program (place ++ Key (codes "labels") ∷ []) family in
      let set : List Claim = set_fit (dimensions_of term) (place ++ Key (codes "set") ∷ []) family.set in
      let walks : List Claim = group_walks_fit program trees (credited_nests term) term.parts place family in
      let starts : List Claim = all_starts_fit program trees (credited_nests term) term.parts (place ++ Key (codes "starts") ∷ []) family in
      let ways : List Claim = ways_fit program trees (credited_nests term) (place ++ Key (codes "ways") ∷ []) family in
      let of_labels : AllHold labels = AllHold-left labels (set ++ walks) h in
      let behind : AllHold (set ++ walks) = AllHold-right labels (set ++ walks) h in
      let of_set : AllHold set = AllHold-left set walks behind in
      let of_walks : AllHold walks = AllHold-right set walks behind in
      let of_starts : AllHold starts = AllHold-left starts ways of_walks in
      let of_ways : AllHold ways = AllHold-right starts ways of_walks in
      let labelings : AllByRecursion (LabelingFits program size) family.labels = labelings-fit program size (place ++ Key (codes "labels") ∷ []) 0 family.labels small.labels of_labels in
      let all_ways : AllByRecursion (WayFits program trees term family) family.ways =
      ways-fit program trees fit rows term family labelings (place ++ Key (codes "ways") ∷ []) 0 family.ways small.ways of_ways in record {
        scale = small.some_scale;
        set = set-below (dimensions_of term) (dimensions_of term) 0 family.set refl of_set.0;
        labels = labelings;
        ways = all_ways;
        starts = starts-fit program trees fit rows term family labelings all_ways (place ++ Key (codes "starts") ∷ []) 0 term.parts family.starts of_starts.0 there small.starts of_starts.1;
      }

  pub families-fit : (place : List Step) (index : ℕ) (families : List JointFamily) → AllByRecursion IsSmallJointFamily families → AllHold (numbered (group_family_at program trees term place) index families)
      → AllByRecursion (FitsFamily program trees term) families
  families-fit place index [] small h = tt
  families-fit place index (family ∷ families) small h =
      let own : List Claim = group_family_at program trees term place index family in
      let rest : List Claim = numbered (group_family_at program trees term place) (suc index) families in
      (family-fits (place ++ Index index ∷ []) family small.0 (AllHold-left own rest h), families-fit place (suc index) families small.1 (AllHold-right own rest h))
