-- What walks claim says nothing of the place at which it stands.
use Rattle.std.proofs.Common.{ℕ, suc, List, [], ◌∷◌, ◌++◌, map}
use Rattle.std.specs.Prelude.{Option, None, Some, codes}
use Rattle.iolb_model.specs.Form.{AffineForm}
use Rattle.iolb_model.specs.Program.{AffineProgram}
use Rattle.affine_form.specs.Multipliers.{FarkasMultipliers}
use Rattle.affine_form.specs.Rows.{equality_rows}
use Rattle.affine_form.specs.System.{AffineSystem}
use Rattle.claims.specs.Claims.{AllHold, Claim, numbered}
use Rattle.claims.specs.Shown.{follow_claims}
use Rattle.claims.specs.declared.place.Step.{Step}
use Rattle.claims.specs.declared.place.Step.TheVariants.{Index, Key}
use Rattle.claims.proofs.Laws.{AllHold-append, AllHold-left, AllHold-right}
use Rattle.dep_quast.specs.Context.{ReadOf, no_row}
use Rattle.dep_quast.specs.OpenLeaves.{LeafOrigin, OpenLeaf}
use Rattle.dep_quast.specs.Tree.{SelectionTree}
use Rattle.dep_quast.specs.Trees.{read_of}
use Rattle.reuse_paths.specs.EntryClaims.{credit_goals, going_goals, keeping_claims, label_claims, leaf_claims, word_label}
use Rattle.reuse_paths.specs.Families.{CreditedNest, FamilyForms, NodeForms, node_label}
use Rattle.reuse_paths.specs.FamilyClaims.{family_setting, node_walk, region_walk}
use Rattle.reuse_paths.specs.LeafClaims.{LeafClaim, arrives, goes_on, is_credited, no_point, stops}
use Rattle.reuse_paths.specs.WalkClaims.{leaves_at, leaves_claims, walk_claims}
use Rattle.reuse_paths.specs.WalkSettings.{KeptLabels, WalkSetting, reading_point, region_context, region_variables}
use Rattle.reuse_paths.specs.Walks.{WalkRegion, WalkTree, take, test}
use Rattle.joint_partition.specs.Claims.{member_at, node_claims, region_claims}
use Rattle.joint_partition.specs.Term.{JointTerm, credited_nests}

follow-moved : (condition : ℕ) (place other : List Step) (system : AffineSystem) (index : ℕ) (goals : List AffineForm) (shown : List FarkasMultipliers)
    → AllHold (follow_claims condition place system index goals shown) → AllHold (follow_claims condition other system index goals shown)
follow-moved condition place other system index [] shown h = tt
follow-moved condition place other system index (goal ∷ goals) [] h = tt
follow-moved condition place other system index (goal ∷ goals) (m ∷ shown) h = (h.0, follow-moved condition place other system (suc index) goals shown h.1)

label-moved : (reader : List AffineForm) (place other : List Step) (key : List ℕ) (system : AffineSystem) (label : Option (List AffineForm)) (shown : List FarkasMultipliers)
    → AllHold (label_claims reader place key system label shown) → AllHold (label_claims reader other key system label shown)
label-moved reader place other key system None shown h = h
label-moved reader place other key system (Some label) shown h =
    follow-moved 14 (place ++ Key key ∷ []) (other ++ Key key ∷ []) system 0 (equality_rows system.vars label reader) shown h

module _ (program : AffineProgram) (trees : List (List SelectionTree)) (credits : List CreditedNest) (family : FamilyForms) (label : List AffineForm) where
  abbrev walk : WalkSetting
  walk = family_setting program trees credits family label

  abbrev kept : KeptLabels
  kept = record { reader = label; instances = map node_label family.nodes; cells = family.inputs; credits = credits }

  both-moved : (place other : List Step) (system : AffineSystem) (goals : List AffineForm) (rows : List FarkasMultipliers) (word : Option (List AffineForm)) (shown : List FarkasMultipliers)
      → AllHold (follow_claims 15 (place ++ Key (codes "rows") ∷ []) system 0 goals rows ++ label_claims label place (codes "label") system word shown)
      → AllHold (follow_claims 15 (other ++ Key (codes "rows") ∷ []) system 0 goals rows ++ label_claims label other (codes "label") system word shown)
  both-moved place other system goals rows word shown h =
      let first : List Claim = follow_claims 15 (place ++ Key (codes "rows") ∷ []) system 0 goals rows in
      let second : List Claim = label_claims label place (codes "label") system word shown in
      AllHold-append (follow_claims 15 (other ++ Key (codes "rows") ∷ []) system 0 goals rows) (label_claims label other (codes "label") system word shown)
      (follow-moved 15 (place ++ Key (codes "rows") ∷ []) (other ++ Key (codes "rows") ∷ []) system 0 goals rows (AllHold-left first second h))
      (label-moved label place other (codes "label") system word shown (AllHold-right first second h))

  keeping-moved : (reader : ReadOf) (place other : List Step) (system : AffineSystem) (point : List AffineForm) (origin : LeafOrigin) (entry : LeafClaim)
      → AllHold (keeping_claims 15 walk kept reader place system point origin entry) → AllHold (keeping_claims 15 walk kept reader other system point origin entry)
  keeping-moved reader place other system point origin (no_point shown) h = h
  keeping-moved reader place other system point origin (stops shown) h =
      (h.0, label-moved label place other (codes "stop") system (word_label walk kept reader system.vars point origin) shown h.1)
  keeping-moved reader place other system point origin (is_credited credit rows shown) h =
      (h.0, both-moved place other system (credit_goals program credits system.vars point credit origin) rows (word_label walk kept reader system.vars point origin) shown h.1)
  keeping-moved reader place other system point origin (goes_on rows shown) h =
      (h.0, both-moved place other system (going_goals walk system.vars point origin) rows (word_label walk kept reader system.vars point origin) shown h.1)
  keeping-moved reader place other system point origin (arrives equal) h = h

  leaf-moved : (reader : ReadOf) (place other : List Step) (rows : List AffineForm) (leaf : OpenLeaf) (entry : LeafClaim)
      → AllHold (leaf_claims 15 walk reader place rows leaf entry) → AllHold (leaf_claims 15 walk reader other rows leaf entry)
  leaf-moved reader place other rows leaf entry h =
      (h.0, keeping-moved reader place other (record { vars = region_variables walk reader.statement; rows = rows ++ leaf.tests }) (reading_point walk reader.statement) leaf.origin entry h.1)

  leaves-moved : (reader : ReadOf) (place other : List Step) (rows : List AffineForm) (index : ℕ) (leaves : List OpenLeaf) (entries : List LeafClaim)
      → AllHold (leaves_claims 15 walk reader place rows index leaves entries) → AllHold (leaves_claims 15 walk reader other rows index leaves entries)
  leaves-moved reader place other rows index [] entries h = tt
  leaves-moved reader place other rows index (l ∷ leaves) [] h = tt
  leaves-moved reader place other rows index (l ∷ leaves) (entry ∷ entries) h =
      let first : List Claim = leaf_claims 15 walk reader (place ++ Index index ∷ []) rows l entry in
      let rest : List Claim = leaves_claims 15 walk reader place rows (suc index) leaves entries in
      AllHold-append (leaf_claims 15 walk reader (other ++ Index index ∷ []) rows l entry) (leaves_claims 15 walk reader other rows (suc index) leaves entries)
      (leaf-moved reader (place ++ Index index ∷ []) (other ++ Index index ∷ []) rows l entry (AllHold-left first rest h))
      (leaves-moved reader place other rows (suc index) leaves entries (AllHold-right first rest h))

  pub walk-moved : (statement : ℕ) (place other : List Step) (rows : List AffineForm) (tree : WalkTree)
      → AllHold (walk_claims 15 walk statement place rows tree) → AllHold (walk_claims 15 walk statement other rows tree)
  walk-moved statement place other rows (take read entries) h =
      leaves-moved (read_of statement read) (place ++ Key (codes "leaves") ∷ []) (other ++ Key (codes "leaves") ∷ []) rows 0 (leaves_at walk (read_of statement read)) entries h
  walk-moved statement place other rows (test form above below) h =
      let no_rows : List AffineForm = rows ++ no_row (region_variables walk statement) form ∷ [] in
      let first : List Claim = walk_claims 15 walk statement (place ++ Key (codes "yes") ∷ []) (rows ++ form ∷ []) above in
      let second : List Claim = walk_claims 15 walk statement (place ++ Key (codes "no") ∷ []) no_rows below in
      AllHold-append (walk_claims 15 walk statement (other ++ Key (codes "yes") ∷ []) (rows ++ form ∷ []) above) (walk_claims 15 walk statement (other ++ Key (codes "no") ∷ []) no_rows below)
      (walk-moved statement (place ++ Key (codes "yes") ∷ []) (other ++ Key (codes "yes") ∷ []) (rows ++ form ∷ []) above (AllHold-left first second h))
      (walk-moved statement (place ++ Key (codes "no") ∷ []) (other ++ Key (codes "no") ∷ []) no_rows below (AllHold-right first second h))

-- the claims of a way's regions are those of a family's nodes, elsewhere
module _ (program : AffineProgram) (trees : List (List SelectionTree)) (term : JointTerm) (walks : FamilyForms) where
  region-moved : (label : List AffineForm) (region : Option WalkRegion) (place other : List Step) (statement : ℕ)
      → AllHold (region_claims (family_setting program trees (credited_nests term) walks label) place statement region)
      → AllHold (region_walk (family_setting program trees (credited_nests term) walks label) other statement region)
  region-moved label None place other statement h = tt
  region-moved label (Some region) place other statement h =
      walk-moved program trees (credited_nests term) walks label statement (member_at place (codes "regions") statement ++ Key (codes "tree") ∷ [])
      (other ++ Index statement ∷ Key (codes "region") ∷ Key (codes "tree") ∷ []) (region_context (family_setting program trees (credited_nests term) walks label) statement region.rows) region.tree h

  node-moved : (place other : List Step) (statement : ℕ) (node : Option NodeForms) → AllHold (node_claims program trees term walks place statement node)
      → AllHold (node_walk program trees (credited_nests term) walks other statement node)
  node-moved place other statement None h = tt
  node-moved place other statement (Some node) h = region-moved node.label node.region place other statement h

  pub nodes-moved : (place other : List Step) (statement : ℕ) (nodes : List (Option NodeForms)) → AllHold (numbered (node_claims program trees term walks place) statement nodes)
      → AllHold (numbered (node_walk program trees (credited_nests term) walks other) statement nodes)
  nodes-moved place other statement [] h = tt
  nodes-moved place other statement (node ∷ nodes) h =
      let first : List Claim = node_claims program trees term walks place statement node in
      let rest : List Claim = numbered (node_claims program trees term walks place) (suc statement) nodes in
      AllHold-append (node_walk program trees (credited_nests term) walks other statement node) (numbered (node_walk program trees (credited_nests term) walks other) (suc statement) nodes)
      (node-moved place other statement node (AllHold-left first rest h)) (nodes-moved place other (suc statement) nodes (AllHold-right first rest h))
