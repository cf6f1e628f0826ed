-- The pieces of families have the targets that are told without their claims.
use Rattle.std.proofs.Common.{Bool, ◌≡◌, refl, sym, ◌∙◌, ap, subst, ℕ, suc, ◌<◌, ◌≤◌, List, [], ◌∷◌, ◌++◌, length, map, arith}
use Rattle.std.specs.Prelude.{Option, Some, None, nat_lt, if◌then◌else◌, flat_map}
use Rattle.std.specs.List.{AllByRecursion, cons_option}
use Rattle.std.proofs.lemmas.Bool.{lt-ltb, le-ltb}
use Rattle.std.proofs.lemmas.List.{map-append, get_or_past}
use Rattle.iolb_model.specs.Form.{AffineForm}
use Rattle.affine_form.specs.Matrix.{IntegerMatrix}
use Rattle.iolb_model.specs.Program.{AffineProgram, Statement, statement_at, no_statement}
use Rattle.dep_quast.specs.Context.{ReadOf, reference_of, no_row}
use Rattle.dep_quast.specs.Tree.{source, input, empty, blank, SelectionTree, leaf, test}
use Rattle.footprint_pieces.specs.declared.piece.Target.{Target}
use Rattle.footprint_pieces.specs.declared.piece.Target.TheVariants.{Cell, Instance}
use Rattle.reuse_paths.specs.Families.{CreditedNest, FamilyForms, NodeForms, node_region}
use Rattle.reuse_paths.specs.FamilyClaims.{family_setting, start_rows}
use Rattle.reuse_paths.specs.FamilyFits.{FamilyFits, NodeFits, NodesFit}
use Rattle.reuse_paths.specs.FamilyPieces.{family_pieces, region_pieces, regions_pieces}
use Rattle.reuse_paths.specs.LeafClaims.{LeafClaim, no_point, stops, is_credited, goes_on, arrives}
use Rattle.dep_quast.specs.OpenLeaves.{LeafOrigin, written, as_input, unknown, OpenLeaf, form_at, no_at, open_leaves}
use Rattle.footprint_pieces.specs.Pieces.{FootprintPiece}
use Rattle.dep_quast.specs.Quasts.{tree_at, tree_or_blank}
use Rattle.dep_quast.specs.Trees.{read_of}
use Rattle.reuse_paths.specs.WalkClaims.{leaves_at}
use Rattle.reuse_paths.specs.WalkFits.{WalkFits, RegionFits}
use Rattle.reuse_paths.specs.WalkPieces.{entry_pieces, leaves_pieces, walk_pieces}
use Rattle.reuse_paths.specs.WalkSettings.{WalkSetting, region_variables, reading_point, region_context}
use Rattle.reuse_paths.specs.Walks.{WalkTree, take, test as walk_test, WalkRegion}
use Rattle.footprint_pieces.proofs.PairCounts.{targets_of}
use Rattle.iolb_check.specs.FamilyTargets.{leaf_targets, taken_target, taken_targets, taken_if, walk_targets, region_targets, regions_targets, family_targets}

-- ---- leaves

-- the target of a leaf's piece, by where its word comes from
origin_target : ℕ → LeafOrigin → Option Target
origin_target array (written statement values) = Some (Instance statement)
origin_target array as_input = Some (Cell array)
origin_target array unknown = None

leaf_origins : ℕ → List OpenLeaf → List (Option Target)
leaf_origins array leaves = map (λ (l : OpenLeaf). origin_target array l.origin) leaves

-- they are told by the tree alone
origins-told : (array vars : ℕ) (point tests : List AffineForm) (tree : SelectionTree) → leaf_origins array (open_leaves vars point tests tree) ≡ leaf_targets array tree
unfolding origin_target leaf_origins
origins-told array vars point tests (leaf (source claim)) = refl
origins-told array vars point tests (leaf (input shown)) = refl
origins-told array vars point tests (leaf (empty shown)) = refl
origins-told array vars point tests (leaf blank) = refl
origins-told array vars point tests (test form above below) =
    let high : List OpenLeaf = open_leaves vars point (tests ++ form_at vars point form ∷ []) above in
    let low : List OpenLeaf = open_leaves vars point (tests ++ no_at vars point form ∷ []) below in
    map-append (λ (l : OpenLeaf). origin_target array l.origin) high low
    ∙ ap (λ (ts : List (Option Target)). ts ++ leaf_origins array low) (origins-told array vars point (tests ++ form_at vars point form ∷ []) above)
    ∙ ap (λ (ts : List (Option Target)). leaf_targets array above ++ ts) (origins-told array vars point (tests ++ no_at vars point form ∷ []) below)

module _ (walk : WalkSetting) (reader : ReadOf) where
  array : ℕ
  array = (reference_of walk.program reader).array

  -- the piece of a leaf has its target
  entry-told : (rows : List AffineForm) (origin : LeafOrigin) (entry : LeafClaim) (rest : List Target)
      → targets_of (entry_pieces walk reader rows origin entry) ++ rest ≡ cons_option (taken_target (origin_target array origin) entry) rest
  unfolding array origin_target
  entry-told rows origin (no_point shown) rest = refl
  entry-told rows (written statement values) (stops label) rest = refl
  entry-told rows as_input (stops label) rest = refl
  entry-told rows unknown (stops label) rest = refl
  entry-told rows (written statement values) (is_credited credit shown label) rest = refl
  entry-told rows as_input (is_credited credit shown label) rest = refl
  entry-told rows unknown (is_credited credit shown label) rest = refl
  entry-told rows (written statement values) (goes_on shown label) rest = refl
  entry-told rows as_input (goes_on shown label) rest = refl
  entry-told rows unknown (goes_on shown label) rest = refl
  entry-told rows (written statement values) (arrives equal) rest = refl
  entry-told rows as_input (arrives equal) rest = refl
  entry-told rows unknown (arrives equal) rest = refl

  leaves-told : (rows : List AffineForm) (leaves : List OpenLeaf) (entries : List LeafClaim)
      → targets_of (leaves_pieces walk reader rows leaves entries) ≡ taken_targets (leaf_origins array leaves) entries
  unfolding leaf_origins
  leaves-told rows [] entries = refl
  leaves-told rows (l ∷ leaves) [] = refl
  leaves-told rows (l ∷ leaves) (entry ∷ entries) =
      map-append (λ (piece : FootprintPiece). piece.target) (entry_pieces walk reader (rows ++ l.tests) l.origin entry) (leaves_pieces walk reader rows leaves entries)
      ∙ entry-told (rows ++ l.tests) l.origin entry (targets_of (leaves_pieces walk reader rows leaves entries))
      ∙ ap (cons_option (taken_target (origin_target array l.origin) entry)) (leaves-told rows leaves entries)

  -- so does each piece of a read, where it is there
  read-told : (rows : List AffineForm) (entries : List LeafClaim) (tree : Option SelectionTree) → tree_at walk.trees reader.statement reader.read ≡ tree
      → targets_of (leaves_pieces walk reader rows (leaves_at walk reader) entries) ≡ taken_if array entries tree
  read-told rows entries None is =
      let vars : ℕ = region_variables walk reader.statement in
      let point : List AffineForm = reading_point walk reader.statement in
      ap (λ (t : Option SelectionTree). targets_of (leaves_pieces walk reader rows (open_leaves vars point [] (tree_or_blank t)) entries)) is
      ∙ leaves-told rows (open_leaves vars point [] (leaf blank)) entries
      ∙ ap (λ (ts : List (Option Target)). taken_targets ts entries) (origins-told array vars point [] (leaf blank))
      ∙ none-taken entries where
        none-taken : (es : List LeafClaim) → taken_targets (None ∷ []) es ≡ []
        none-taken [] = refl
        none-taken (no_point shown ∷ es) = refl
        none-taken (stops label ∷ es) = refl
        none-taken (is_credited credit shown label ∷ es) = refl
        none-taken (goes_on shown label ∷ es) = refl
        none-taken (arrives equal ∷ es) = refl
  read-told rows entries (Some tree) is =
      let vars : ℕ = region_variables walk reader.statement in
      let point : List AffineForm = reading_point walk reader.statement in
      ap (λ (t : Option SelectionTree). targets_of (leaves_pieces walk reader rows (open_leaves vars point [] (tree_or_blank t)) entries)) is
      ∙ leaves-told rows (open_leaves vars point [] tree) entries
      ∙ ap (λ (ts : List (Option Target)). taken_targets ts entries) (origins-told array vars point [] tree)

-- ---- walks

-- the reads that a walk takes are there
abbrev AreThere : AffineProgram → ℕ → WalkTree → Type 0
AreThere program statement (take read entries) = read < length (statement_at program statement).reads
AreThere program statement (walk_test form above below) = AreThere program statement above × AreThere program statement below

pub are-there : (walk : WalkSetting) (statement : ℕ) (tree : WalkTree) → WalkFits walk statement tree → AreThere walk.program statement tree
are-there walk statement (take read entries) fits = fits.read_fits.read
are-there walk statement (walk_test form above below) fits = (are-there walk statement above fits.1, are-there walk statement below fits.2)

pub walk-told : (walk : WalkSetting) (statement : ℕ) (rows : List AffineForm) (tree : WalkTree) → AreThere walk.program statement tree
    → targets_of (walk_pieces walk statement rows tree) ≡ walk_targets walk.program walk.trees statement tree
unfolding array
walk-told walk statement rows (take read entries) there =
    let reader : ReadOf = read_of statement read in
    let chosen : Option SelectionTree = tree_at walk.trees statement read in
    read-told walk reader rows entries chosen refl
    ∙ sym (ap (λ (b : Bool). if b then taken_if (reference_of walk.program reader).array entries chosen else [])
    (lt-ltb read (length (statement_at walk.program statement).reads) there))
walk-told walk statement rows (walk_test form above below) there =
    let high : List AffineForm = rows ++ form ∷ [] in
    let low : List AffineForm = rows ++ no_row (region_variables walk statement) form ∷ [] in
    map-append (λ (piece : FootprintPiece). piece.target) (walk_pieces walk statement high above) (walk_pieces walk statement low below)
    ∙ ap (λ (ts : List Target). ts ++ targets_of (walk_pieces walk statement low below)) (walk-told walk statement high above there.0)
    ∙ ap (λ (ts : List Target). walk_targets walk.program walk.trees statement above ++ ts) (walk-told walk statement low below there.1)

-- ---- families

-- the regions of nodes, of which each walk fits at readers with the node's label
module _ (program : AffineProgram) (trees : List (List SelectionTree)) (credits : List CreditedNest) (family : FamilyForms) (walk : WalkSetting)
    (same : walk.program ≡ program) (same_trees : walk.trees ≡ trees) where
  region-told : (statement : ℕ) (node : Option NodeForms) → NodeFits program trees credits family statement node
      → targets_of (region_pieces walk statement (node_region node)) ≡ region_targets walk.program walk.trees statement (node_region node)
  region-told statement None fits = refl
  region-told statement (Some node) fits = by node.region fits where
    by : (region : Option WalkRegion) → RegionFits (family_setting program trees credits family node.label) statement region
        → targets_of (region_pieces walk statement region) ≡ region_targets walk.program walk.trees statement region
    by None h = refl
    by (Some region) h =
        walk-told walk statement (region_context walk statement region.rows) region.tree
        (subst (λ (p : AffineProgram). AreThere p statement region.tree) (sym same) (are-there (family_setting program trees credits family node.label) statement region.tree h.1))

  pub regions-told : (statement : ℕ) (nodes : List (Option NodeForms)) → NodesFit program trees credits family statement nodes
      → targets_of (regions_pieces walk statement (map node_region nodes)) ≡ regions_targets walk.program walk.trees statement (map node_region nodes)
  regions-told statement [] fits = refl
  regions-told statement (node ∷ nodes) fits =
      map-append (λ (piece : FootprintPiece). piece.target) (region_pieces walk statement (node_region node)) (regions_pieces walk (suc statement) (map node_region nodes))
      ∙ ap (λ (ts : List Target). ts ++ targets_of (regions_pieces walk (suc statement) (map node_region nodes))) (region-told statement node fits.0)
      ∙ ap (λ (ts : List Target). region_targets walk.program walk.trees statement (node_region node) ++ ts) (regions-told (suc statement) nodes fits.1)

pub family-told : (program : AffineProgram) (trees : List (List SelectionTree)) (statement : ℕ) (nest : List (AffineForm × AffineForm)) (matrix : IntegerMatrix)
    (credits : List CreditedNest) (family : FamilyForms) → FamilyFits program trees statement nest matrix credits family
    → targets_of (family_pieces program trees statement nest family) ≡ family_targets program trees statement family
family-told program trees statement nest matrix credits family fits =
    let walk : WalkSetting = family_setting program trees [] family family.start_label in
    let rows : List AffineForm = region_context walk statement (start_rows walk statement nest) in
    let others : List FootprintPiece = regions_pieces walk 0 (map node_region family.nodes) in
    map-append (λ (piece : FootprintPiece). piece.target) (walk_pieces walk statement rows family.start) others
    ∙ ap (λ (ts : List Target). ts ++ targets_of others)
    (walk-told walk statement rows family.start (are-there (family_setting program trees credits family family.start_label) statement family.start fits.start))
    ∙ ap (λ (ts : List Target). walk_targets program trees statement family.start ++ ts)
    (regions-told program trees credits family walk refl refl 0 family.nodes fits.regions)

-- those of several families, each for itself, and all together
module _ (program : AffineProgram) (trees : List (List SelectionTree)) (statement : ℕ) (nest : List (AffineForm × AffineForm)) (matrix : IntegerMatrix) (credits : List CreditedNest) where
  pub families-told : (families : List FamilyForms) → AllByRecursion (FamilyFits program trees statement nest matrix credits) families
      → map targets_of (map (family_pieces program trees statement nest) families) ≡ map (family_targets program trees statement) families
  families-told [] fits = refl
  families-told (family ∷ families) fits =
      ap (λ (ts : List Target). ts ∷ map targets_of (map (family_pieces program trees statement nest) families))
      (family-told program trees statement nest matrix credits family fits.0)
      ∙ ap (λ (lists : List (List Target)). family_targets program trees statement family ∷ lists) (families-told families fits.1)

  pub all-told : (families : List FamilyForms) → AllByRecursion (FamilyFits program trees statement nest matrix credits) families
      → targets_of (flat_map (family_pieces program trees statement nest) families) ≡ flat_map (family_targets program trees statement) families
  all-told [] fits = refl
  all-told (family ∷ families) fits =
      map-append (λ (piece : FootprintPiece). piece.target) (family_pieces program trees statement nest family) (flat_map (family_pieces program trees statement nest) families)
      ∙ ap (λ (ts : List Target). ts ++ targets_of (flat_map (family_pieces program trees statement nest) families))
      (family-told program trees statement nest matrix credits family fits.0)
      ∙ ap (λ (ts : List Target). family_targets program trees statement family ++ ts) (all-told families fits.1)

-- ---- statements that aren't there

-- a test that may only hold where there are reads
none-read : {X : Type 0} (read : ℕ) (some : List X) → (if nat_lt read 0 then some else []) ≡ []
none-read {X} read some = ap (λ (b : Bool). if b then some else []) (le-ltb read 0 (omega arith))

module _ (program : AffineProgram) (trees : List (List SelectionTree)) (statement : ℕ) (past : length program.statements ≤ statement) where
  no-targets : (tree : WalkTree) → walk_targets program trees statement tree ≡ []
  no-targets (take read entries) =
      let some : List Target = taken_if (reference_of program (read_of statement read)).array entries (tree_at trees statement read) in
      ap (λ (st : Statement). if nat_lt read (length st.reads) then some else []) (get_or_past program.statements statement no_statement past) ∙ none-read read some
  no-targets (walk_test form above below) = ap (λ (ts : List Target). ts ++ walk_targets program trees statement below) (no-targets above) ∙ no-targets below

  -- they have no targets
  pub none-told : (region : Option WalkRegion) → region_targets program trees statement region ≡ []
  none-told None = refl
  none-told (Some region) = no-targets region.tree
