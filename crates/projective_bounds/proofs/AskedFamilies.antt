-- What is asked of the families of arrays (condition 1) holds.
use Rattle.std.proofs.Common.{◌≡◌, refl, sym, ◌∙◌, ap, subst, ℕ, zero, suc, ◌+◌, ◌*◌, ◌≤◌, List, [], ◌∷◌, ◌++◌, length, map, cond, filter, arith, Bool, true, false}
use Rattle.std.specs.Prelude.{Option, Some, None, ◌==◌, if◌then◌else◌, slice_get, slice_index_or, codes}
use Rattle.std.specs.List.{AllByRecursion, range_with_len}
use Rattle.std.proofs.lemmas.Bool.{eqb-false}
use Rattle.std.proofs.lemmas.List.{length-map, length-replicate}
use Rattle.base_laws.proofs.Lists.{All-append}
use Rattle.iolb_model.specs.Form.{AffineForm}
use Rattle.iolb_model.specs.Program.{Array, AffineProgram, statement_at}
use Rattle.certificate_fit.proofs.FormsFit.{forms-hold}
use Rattle.affine_form.specs.Matrix.{IntegerMatrix}
use Rattle.affine_program.specs.Domain.{depth_of}
use Rattle.claims.specs.Claims.{Claim, AllHold, numbered}
use Rattle.claims.specs.declared.place.Step.{Step}
use Rattle.claims.specs.declared.place.Step.TheVariants.{Key, Index}
use Rattle.claims.proofs.Laws.{AllHold-append}
use Rattle.dep_quast.specs.Tree.{SelectionTree, leaf, test, source, input, empty, blank}
use Rattle.reuse_paths.specs.Families.{FamilyForms, node_region}
use Rattle.reuse_paths.specs.FamilyFits.{FamilyFits}
use Rattle.reuse_paths.specs.LeafClaims.{LeafClaim, no_point, stops, is_credited, goes_on, arrives}
use Rattle.dep_quast.specs.Quasts.{tree_for}
use Rattle.dep_quast.specs.Trees.{read_of}
use Rattle.reuse_paths.specs.WalkFits.{AreCellLabels, IsLabel}
use Rattle.reuse_paths.specs.WalkSettings.{WalkSetting, region_at}
use Rattle.certificate_fit.specs.EntryFit.{EntryAim, aimed_at, aimed_entries_fit, aimed_fit, leaf_names, names_in}
use Rattle.certificate_fit.specs.FamilyFit.{RisesBelow, family_at, family_fit, input_fit, inputs_fit, label_fit, node_fit, nodes_fit, set_fit, start_fit, subscripts_of}
use Rattle.certificate_fit.specs.FitClaims.{names}
use Rattle.certificate_fit.specs.WalkFit.{entry_aim, row_count, rows_called, walk_fit}
use Rattle.certificate_fit.proofs.ReadTrees.{names-of, open-many}
use Rattle.projective_bounds.specs.Families.{array_families, array_family, array_node, array_read, array_walk, entries_of, loops_label, loop_form}
use Rattle.projective_bounds.specs.Multipliers.{labels_agree, none_taken}
use Rattle.projective_bounds.proofs.Family.{AreWalked, IsNest, IsWalked, family-fits, tree-is}
use Rattle.projective_bounds.proofs.Leaves as at

-- ---- labels

label-asked : (size vars : ℕ) (place : List Step) (label : List AffineForm) → IsLabel size vars label → AllHold (label_fit size vars place label)
label-asked size vars place label h = (h.each, forms-hold vars place 0 label h.over)

module _ (program : AffineProgram) (size : ℕ) (place : List Step) where
  cells-many : (arrays : List Array) (labels : List (Option (List AffineForm))) → AreCellLabels program size arrays labels → length labels ≡ length arrays
  cells-many [] [] h = refl
  cells-many [] (label ∷ labels) h = absurd h
  cells-many (array ∷ arrays) [] h = absurd h
  cells-many (array ∷ arrays) (label ∷ labels) h = ap suc (cells-many arrays labels h.1)

  -- the arrays from one on
  abbrev Follow : ℕ → List Array → Type 0
  Follow i arrays = (k : ℕ) → slice_get program.arrays (i + k) ≡ slice_get arrays k

  follow : (i : ℕ) (array : Array) (arrays : List Array) → Follow i (array ∷ arrays) → Follow (suc i) arrays
  follow i array arrays from k = ap (slice_get program.arrays) (later i k) ∙ from (suc k) where
    later : (m n : ℕ) → suc m + n ≡ m + suc n
    later m n = omega arith

  cells-asked : (i : ℕ) (arrays : List Array) (labels : List (Option (List AffineForm))) → Follow i arrays → AreCellLabels program size arrays labels
      → AllHold (numbered (input_fit program size place) i labels)
  cells-asked i [] [] from h = tt
  cells-asked i [] (label ∷ labels) from h = absurd h
  cells-asked i (array ∷ arrays) [] from h = absurd h
  cells-asked i (array ∷ arrays) (None ∷ labels) from h = cells-asked (suc i) arrays labels (follow i array arrays from) h.1
  cells-asked i (array ∷ arrays) (Some label ∷ labels) from h =
      let vars : ℕ = length program.parameters + subscripts_of (slice_get program.arrays i) in
      let ranked : array.rank ≡ subscripts_of (slice_get program.arrays i) = sym (ap (λ (n : ℕ). subscripts_of (slice_get program.arrays n)) (flat i) ∙ ap subscripts_of (from 0)) in
      AllHold-append (label_fit size vars (place ++ Index i ∷ []) label) (numbered (input_fit program size place) (suc i) labels)
      (label-asked size vars (place ++ Index i ∷ []) label (subst (λ (n : ℕ). IsLabel size (length program.parameters + n) label) ranked h.0))
      (cells-asked (suc i) arrays labels (follow i array arrays from) h.1) where
        flat : (n : ℕ) → n ≡ n + 0
        flat n = omega arith

-- ---- entries

-- an entry stops, or goes on where no rows are asked for, with two multipliers for each form of a label
abbrev IsBare : ℕ → LeafClaim → Type 0
IsBare size (no_point shown) = ⊥
IsBare size (stops label) = length label ≡ 2 * size
IsBare size (is_credited credit rows label) = ⊥
IsBare size (goes_on rows label) = (length rows ≡ 0) × (length label ≡ 2 * size)
IsBare size (arrives equal) = ⊥

agree-many : (size : ℕ) → length (labels_agree size) ≡ 2 * size
agree-many size = length-replicate (2 * size) none_taken

all-bare : (size : ℕ) (tree : SelectionTree) → AllByRecursion (IsBare size) (entries_of size tree)
all-bare size (leaf (source claim)) = ((refl, agree-many size), tt)
all-bare size (leaf (input shown)) = (agree-many size, tt)
all-bare size (leaf (empty shown)) = tt
all-bare size (leaf blank) = (agree-many size, tt)
all-bare size (test form above below) = All-append (IsBare size) (entries_of size above) (entries_of size below) (all-bare size above) (all-bare size below)

entry-asked : (aim : EntryAim) (size called : ℕ) (entry : LeafClaim) (place : List Step) → aim.label ≡ size → called ≡ 0 → IsBare size entry → AllHold (aimed_fit aim called entry place)
entry-asked aim size called (no_point shown) place e none h = absurd h
entry-asked aim size called (stops label) place e none h = (h ∙ ap (λ (n : ℕ). 2 * n) (sym e), tt)
entry-asked aim size called (is_credited credit rows label) place e none h = absurd h
entry-asked aim size called (goes_on rows label) place e none h = (h.1 ∙ ap (λ (n : ℕ). 2 * n) (sym e), (h.0 ∙ sym none, tt))
entry-asked aim size called (arrives equal) place e none h = absurd h

entries-asked : (aim : EntryAim) (size : ℕ) (called : List ℕ) (place : List Step) (index : ℕ) (entries : List LeafClaim) → aim.label ≡ size → ((k : ℕ) → slice_index_or called k 0 ≡ 0)
    → AllByRecursion (IsBare size) entries → AllHold (numbered (aimed_at aim called place) index entries)
entries-asked aim size called place index [] e none h = tt
entries-asked aim size called place index (entry ∷ entries) e none h =
    AllHold-append (aimed_at aim called place index entry) (numbered (aimed_at aim called place) (suc index) entries)
    (entry-asked aim size (slice_index_or called index 0) entry (place ++ Index index ∷ []) e (none index) h.0) (entries-asked aim size called place (suc index) entries e none h.1)

none-called : (f : Option ℕ → ℕ) → ((name : Option ℕ) → f name ≡ 0) → (named : List (Option ℕ)) (k : ℕ) → slice_index_or (map f named) k 0 ≡ 0
none-called f none [] k = refl
none-called f none (name ∷ named) zero = none name
none-called f none (name ∷ named) (suc k) = none-called f none named k

-- ---- sets

-- the numbers of a range that pass a test rise
rising-asked : (passes : ℕ → Bool) (depth least first count : ℕ) → least ≤ first → first + count ≤ depth → RisesBelow depth least (filter passes (range_with_len first count))
rising-asked passes depth least first zero le within = tt
rising-asked passes depth least first (suc count) le within =
    by (passes first) (rising-asked passes depth (suc first) (first + 1) count (omega arith) (omega (arith, within)))
    (rising-asked passes depth least (first + 1) count (omega (arith, le)) (omega (arith, within))) where
      by : (b : Bool) → RisesBelow depth (suc first) (filter passes (range_with_len (first + 1) count)) → RisesBelow depth least (filter passes (range_with_len (first + 1) count))
          → RisesBelow depth least (cond b (first ∷ filter passes (range_with_len (first + 1) count)) (filter passes (range_with_len (first + 1) count)))
      by true taken left = ((le, omega (arith, within)), taken)
      by false taken left = left

-- a set is as asked
abbrev pub IsRising : ℕ → List ℕ → Type 0
IsRising depth set = RisesBelow depth 0 set

pub filtered-rises : (passes : ℕ → Bool) (depth : ℕ) → IsRising depth (filter passes (range_with_len 0 depth))
filtered-rises passes depth = rising-asked passes depth 0 0 depth (omega arith) (omega arith)

-- ---- a family

module _ (program : AffineProgram) (trees : List (List SelectionTree)) (array : ℕ) (set : List ℕ) (weight : ℕ) (nest : List (AffineForm × AffineForm)) (matrix : IntegerMatrix)
    (h : IsWalked program trees array set) (g : IsNest program nest matrix) (rising : IsRising (depth_of program 0) set) where
  abbrev family : FamilyForms
  family = array_family program trees array set weight

  abbrev walk : WalkSetting
  walk = at.walk program trees array set weight

  abbrev p : ℕ
  p = length program.parameters

  abbrev d : ℕ
  d = depth_of program 0

  fits : FamilyFits program trees 0 nest matrix [] family
  fits = family-fits program trees array set weight nest matrix h g

  -- the region of the one statement has no rows
  no-rows : (name : Option ℕ) → rows_called walk.nodes name ≡ 0
  no-rows None = refl
  no-rows (Some statement) = by ((statement_at program 0).writes.array == array) statement where
    by : (b : Bool) (n : ℕ) → row_count (region_at (node_region (if b then Some (record { label = loops_label program set; region = Some (record { rows = []; tree = array_walk program trees array (length set) }) }) else None) ∷ []) n) ≡ 0
    by true zero = refl
    by true (suc n) = refl
    by false zero = refl
    by false (suc n) = refl

  entries-many : length (entries_of (length set) h.tree) ≡ length (names_in h.tree)
  entries-many =
      sym (at.as-many-leaves program trees array set weight [] h.tree)
      ∙ open-many (at.vars program trees array set weight) (at.here program trees array set weight) [] h.tree

  walk-asked : (place : List Step) → AllHold (walk_fit walk 0 place (array_walk program trees array (length set)))
  walk-asked place =
      let reader = read_of 0 (array_read program array) in
      let called = leaf_names program trees reader in
      let in_tree : called ≡ names_in h.tree = names-of program trees reader h.tree h.read h.there in
      let entries : List LeafClaim = entries_of (length set) (tree_for trees reader) in
      let is : entries ≡ entries_of (length set) h.tree = ap (entries_of (length set)) (tree-is program trees array set h) in
      let bare : AllByRecursion (IsBare (length set)) entries = subst (AllByRecursion (IsBare (length set))) (sym is) (all-bare (length set) h.tree) in (
        ap length is ∙ entries-many ∙ ap length (sym in_tree),
        AllHold-append (aimed_entries_fit (entry_aim walk) (map (rows_called walk.nodes) called) (place ++ Key (codes "leaves") ∷ []) entries)
            (names (place ++ Key (codes "read") ∷ []) (array_read program array) (length (statement_at program 0).reads) ∷ [])
            (entries-asked (entry_aim walk) (length set) (map (rows_called walk.nodes) called) (place ++ Key (codes "leaves") ∷ []) 0 entries (length-map set (loop_form program))
            (none-called (rows_called walk.nodes) no-rows called) bare)
            (h.read, tt),
      )

  node-asked : (place : List Step) → AllHold (node_fit program trees [] family place 0 (array_node program trees array set))
  node-asked place = by ((statement_at program 0).writes.array == array) where
    by : (b : Bool) → AllHold (node_fit program trees [] family place 0 (if b then Some (record { label = loops_label program set; region = Some (record { rows = []; tree = array_walk program trees array (length set) }) }) else None))
    by true =
        AllHold-append (label_fit (length set) (p + d) ((place ++ Index 0 ∷ []) ++ Key (codes "label") ∷ []) (loops_label program set))
        (walk_fit walk 0 (((place ++ Index 0 ∷ []) ++ Key (codes "region") ∷ []) ++ Key (codes "tree") ∷ []) (array_walk program trees array (length set)))
        (label-asked (length set) (p + d) ((place ++ Index 0 ∷ []) ++ Key (codes "label") ∷ []) (loops_label program set) fits.start_label)
        (walk-asked (((place ++ Index 0 ∷ []) ++ Key (codes "region") ∷ []) ++ Key (codes "tree") ∷ []))
    by false = tt

  inputs-asked : (place : List Step) → AllHold (inputs_fit program place (length family.set) family.inputs)
  inputs-asked place = (
    cells-many program (length set) place program.arrays family.inputs fits.labels.cells,
    cells-asked program (length set) place 0 program.arrays family.inputs (λ k. ap (slice_get program.arrays) (front k)) fits.labels.cells,
  ) where
    front : (n : ℕ) → 0 + n ≡ n
    front n = omega arith

  nodes-asked : (place : List Step) → AllHold (nodes_fit program trees [] place family)
  nodes-asked place = (sym g.one, AllHold-append (node_fit program trees [] family place 0 (array_node program trees array set)) [] (node-asked place) tt)

  start-asked : (place : List Step) → AllHold (start_fit program trees 0 [] place family)
  start-asked place =
      AllHold-append (label_fit (length set) (p + d) (place ++ Key (codes "label") ∷ []) (loops_label program set)) (walk_fit walk 0 (place ++ Key (codes "tree") ∷ []) family.start)
      (label-asked (length set) (p + d) (place ++ Key (codes "label") ∷ []) (loops_label program set) fits.start_label) (walk-asked (place ++ Key (codes "tree") ∷ []))

  family-asked : (place : List Step) → AllHold (family_fit program trees 0 [] place family)
  family-asked place =
      let inputs : List Claim = inputs_fit program (place ++ Key (codes "inputs") ∷ []) (length family.set) family.inputs in
      let nodes : List Claim = nodes_fit program trees [] (place ++ Key (codes "nodes") ∷ []) family in
      let rows : List Claim = set_fit d (place ++ Key (codes "set") ∷ []) set in
      let start : List Claim = start_fit program trees 0 [] (place ++ Key (codes "start") ∷ []) family in
      AllHold-append inputs (nodes ++ (rows ++ start)) (inputs-asked (place ++ Key (codes "inputs") ∷ []))
      (AllHold-append nodes (rows ++ start) (nodes-asked (place ++ Key (codes "nodes") ∷ []))
      (AllHold-append rows start (rising, tt) (start-asked (place ++ Key (codes "start") ∷ []))))

-- ---- all families

module _ (program : AffineProgram) (trees : List (List SelectionTree)) (nest : List (AffineForm × AffineForm)) (matrix : IntegerMatrix) (g : IsNest program nest matrix) where
  pub families-asked : (place : List Step) (index first : ℕ) (sets : List (List ℕ)) (weights : List ℕ) → AreWalked program trees first sets weights
      → AllByRecursion (IsRising (depth_of program 0)) sets → AllHold (numbered (family_at program trees 0 [] place) index (array_families program trees first sets weights))
  families-asked place index first [] weights h rising = tt
  families-asked place index first (set ∷ sets) [] h rising = tt
  families-asked place index first (set ∷ sets) (w ∷ weights) h rising =
      by (w == 0) refl (families-asked place index (suc first) sets weights h.1 rising.1) (families-asked place (suc index) (suc first) sets weights h.1 rising.1) where
        by : (b : Bool) → b ≡ (w == 0) → AllHold (numbered (family_at program trees 0 [] place) index (array_families program trees (suc first) sets weights))
            → AllHold (numbered (family_at program trees 0 [] place) (suc index) (array_families program trees (suc first) sets weights))
            → AllHold (numbered (family_at program trees 0 [] place) index ((if b then [] else array_family program trees first set w ∷ []) ++ array_families program trees (suc first) sets weights))
        by true e same next = same
        by false e same next =
            AllHold-append (family_at program trees 0 [] place index (array_family program trees first set w))
            (numbered (family_at program trees 0 [] place) (suc index) (array_families program trees (suc first) sets weights))
            (family-asked program trees first set w nest matrix (h.0 (eqb-false w 0 (sym e))) g rising.0 (place ++ Index index ∷ [])) next
