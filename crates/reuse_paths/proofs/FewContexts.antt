-- A family whose claims hold has few rows in each context.
use Rattle.std.proofs.Common.{ℕ, suc, List, [], ◌∷◌, ◌++◌, length, map}
use Rattle.std.specs.Prelude.{Option, Some, None, codes}
use Rattle.iolb_model.specs.Form.{AffineForm}
use Rattle.iolb_model.specs.Program.{AffineProgram}
use Rattle.affine_program.specs.Domain.{depth_of}
use Rattle.claims.specs.Claims.{Claim, AllHold, numbered}
use Rattle.claims.specs.declared.place.Step.{Step}
use Rattle.claims.specs.declared.place.Step.TheVariants.{Key, Index}
use Rattle.claims.proofs.Laws.{AllHold-append, AllHold-left, AllHold-right}
use Rattle.dep_quast.specs.Context.{ReadOf, no_row}
use Rattle.dep_quast.specs.Tree.{SelectionTree}
use Rattle.reuse_paths.specs.EntryClaims.{leaf_claims}
use Rattle.reuse_paths.specs.Families.{CreditedNest, FamilyForms, NodeForms, node_region}
use Rattle.reuse_paths.specs.FamilyClaims.{family_setting, label_rows, node_walk, region_walk, start_rows, start_walk}
use Rattle.reuse_paths.specs.FewContexts.{few_leaves, few_walk, few_region, ContextsAreFew}
use Rattle.reuse_paths.specs.LeafClaims.{LeafClaim}
use Rattle.dep_quast.specs.OpenLeaves.{OpenLeaf}
use Rattle.dep_quast.specs.Trees.{read_of}
use Rattle.reuse_paths.specs.WalkClaims.{leaves_at, leaves_claims, walk_claims}
use Rattle.reuse_paths.specs.WalkSettings.{WalkSetting, region_context, region_variables}
use Rattle.reuse_paths.specs.Walks.{WalkTree, take, test, WalkRegion}

leaves-few : (walk : WalkSetting) (reader : ReadOf) (place other : List Step) (rows : List AffineForm) (i j : ℕ) (leaves : List OpenLeaf) (entries : List LeafClaim)
    → AllHold (leaves_claims 15 walk reader place rows i leaves entries) → AllHold (few_leaves other rows j leaves entries)
leaves-few walk reader place other rows i j [] entries h = tt
leaves-few walk reader place other rows i j (l ∷ leaves) [] h = tt
leaves-few walk reader place other rows i j (l ∷ leaves) (entry ∷ entries) h =
    let here : List Claim = leaf_claims 15 walk reader (place ++ Index i ∷ []) rows l entry in
    let later : List Claim = leaves_claims 15 walk reader place rows (suc i) leaves entries in
    (h.0, leaves-few walk reader place other rows (suc i) (suc j) leaves entries (AllHold-right here later h))

module _ (program : AffineProgram) (trees : List (List SelectionTree)) (credits : List CreditedNest) (family : FamilyForms) where
  abbrev plain : WalkSetting
  plain = family_setting program trees [] family family.start_label

  pub walk-few : (reader : List AffineForm) (s : ℕ) (place other : List Step) (rows : List AffineForm) (tree : WalkTree)
      → AllHold (walk_claims 15 (family_setting program trees credits family reader) s place rows tree) → AllHold (few_walk plain s other rows tree)
  walk-few reader s place other rows (take read entries) h =
      leaves-few (family_setting program trees credits family reader) (read_of s read) (place ++ Key (codes "leaves") ∷ []) (other ++ Key (codes "leaves") ∷ []) rows 0 0 (leaves_at plain (read_of s read)) entries h
  walk-few reader s place other rows (test form above below) h =
      let walk : WalkSetting = family_setting program trees credits family reader in
      let yes : List Claim = walk_claims 15 walk s (place ++ Key (codes "yes") ∷ []) (rows ++ form ∷ []) above in
      let nay : List Claim = walk_claims 15 walk s (place ++ Key (codes "no") ∷ []) (rows ++ no_row (region_variables walk s) form ∷ []) below in
      AllHold-append (few_walk plain s (other ++ Key (codes "yes") ∷ []) (rows ++ form ∷ []) above) (few_walk plain s (other ++ Key (codes "no") ∷ []) (rows ++ no_row (region_variables plain s) form ∷ []) below)
      (walk-few reader s (place ++ Key (codes "yes") ∷ []) (other ++ Key (codes "yes") ∷ []) (rows ++ form ∷ []) above (AllHold-left yes nay h))
      (walk-few reader s (place ++ Key (codes "no") ∷ []) (other ++ Key (codes "no") ∷ []) (rows ++ no_row (region_variables walk s) form ∷ []) below (AllHold-right yes nay h))

  region-few : (reader : List AffineForm) (s : ℕ) (place other : List Step) (region : Option WalkRegion) → AllHold (region_walk (family_setting program trees credits family reader) place s region)
      → AllHold (few_region plain other s region)
  region-few reader s place other None h = tt
  region-few reader s place other (Some region) h =
      walk-few reader s (place ++ Index s ∷ Key (codes "region") ∷ Key (codes "tree") ∷ []) (other ++ Index s ∷ Key (codes "region") ∷ Key (codes "tree") ∷ []) (region_context plain s region.rows) region.tree h

  node-few : (s : ℕ) (place other : List Step) (node : Option NodeForms) → AllHold (node_walk program trees credits family place s node) → AllHold (few_region plain other s (node_region node))
  node-few s place other None h = tt
  node-few s place other (Some node) h = region-few node.label s place other node.region h

  nodes-few : (first : ℕ) (place other : List Step) (nodes : List (Option NodeForms)) → AllHold (numbered (node_walk program trees credits family place) first nodes)
      → AllHold (numbered (few_region plain other) first (map node_region nodes))
  nodes-few first place other [] h = tt
  nodes-few first place other (node ∷ nodes) h =
      let here : List Claim = node_walk program trees credits family place first node in
      let later : List Claim = numbered (node_walk program trees credits family place) (suc first) nodes in
      AllHold-append (few_region plain other first (node_region node)) (numbered (few_region plain other) (suc first) (map node_region nodes))
      (node-few first place other node (AllHold-left here later h)) (nodes-few (suc first) place other nodes (AllHold-right here later h))

pub contexts-few : ContextsAreFew
contexts-few program trees statement nest matrix credits family place other h =
    let label : List Claim = label_rows matrix family.scale (length program.parameters) (depth_of program statement) (place ++ Key (codes "start") ∷ Key (codes "label") ∷ []) 0 family.set family.start_label in
    let start : List Claim = start_walk program trees statement nest credits family place in
    let nodes : List Claim = numbered (node_walk program trees credits family (place ++ Key (codes "nodes") ∷ [])) 0 family.nodes in
    let walk : WalkSetting = family_setting program trees [] family family.start_label in
    let rows : List AffineForm = region_context walk statement (start_rows walk statement nest) in
    let walks : AllHold start = AllHold-right label start (AllHold-left (label ++ start) nodes h) in
    AllHold-append (few_walk walk statement (other ++ Key (codes "start") ∷ Key (codes "tree") ∷ []) rows family.start) (numbered (few_region walk (other ++ Key (codes "nodes") ∷ [])) 0 walk.nodes)
    (walk-few program trees credits family family.start_label statement (place ++ Key (codes "start") ∷ Key (codes "tree") ∷ []) (other ++ Key (codes "start") ∷ Key (codes "tree") ∷ []) rows family.start walks)
    (nodes-few program trees credits family 0 (place ++ Key (codes "nodes") ∷ []) (other ++ Key (codes "nodes") ∷ []) family.nodes (AllHold-right (label ++ start) nodes h))
