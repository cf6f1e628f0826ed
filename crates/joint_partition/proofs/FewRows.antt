-- The families of a term whose claims hold have few rows in each context.
use Rattle.std.proofs.Common.{ℕ, suc, List, [], ◌∷◌, ◌++◌}
use Rattle.std.specs.Prelude.{Option, Some, None, codes}
use Rattle.std.specs.List.{AllByRecursion}
use Rattle.iolb_model.specs.Program.{AffineProgram}
use Rattle.claims.specs.Claims.{AllHold, Claim, numbered}
use Rattle.claims.specs.declared.place.Step.{Step}
use Rattle.claims.specs.declared.place.Step.TheVariants.{Index, Key}
use Rattle.claims.proofs.Laws.{AllHold-left, AllHold-right}
use Rattle.dep_quast.specs.Tree.{SelectionTree}
use Rattle.reuse_paths.specs.Families.{FamilyForms, NodeForms}
use Rattle.reuse_paths.specs.FamilyClaims.{family_setting, node_walk, region_walk, start_rows}
use Rattle.reuse_paths.specs.WalkSettings.{WalkSetting, region_context}
use Rattle.reuse_paths.specs.Walks.{WalkRegion}
use Rattle.reuse_paths.proofs.FewContexts.{walk-few}
use Rattle.joint_partition.specs.Claims.{families_claims, family_claims, member_at, setting_of, start_claims, way_claims}
use Rattle.joint_partition.specs.JointPieces.{HasFamilyPieces, HasJointPieces, HasRegionPieces, HasStartPieces, HasWayPieces, HaveNodePieces}
use Rattle.joint_partition.specs.Term.{JointFamily, JointTerm, PartWalks, WayTerm, credited_nests, part_walks, way_walks}
use Rattle.joint_partition.proofs.MovedClaims.{nodes-moved}

module _ (program : AffineProgram) (trees : List (List SelectionTree)) (term : JointTerm) where
  starts-few : (place : List Step) (index : ℕ) (walks : List PartWalks) → AllHold (numbered (start_claims program trees term place) index walks) → AllByRecursion (HasStartPieces program trees) walks
  starts-few place index [] h = tt
  starts-few place index (from ∷ walks) h =
      let here : List Claim = start_claims program trees term place index from in
      let later : List Claim = numbered (start_claims program trees term place) (suc index) walks in
      let walk : WalkSetting = setting_of program trees term from.walks from.walks.start_label in (
        walk-few program trees (credited_nests term) from.walks from.walks.start_label from.part.statement (member_at place (codes "starts") index ++ Key (codes "tree") ∷ []) []
            (region_context walk from.part.statement (start_rows walk from.part.statement from.part.nest)) from.walks.start (AllHold-left here later h),
        starts-few place (suc index) walks (AllHold-right here later h),
      )

  -- the walks, with the label of a node as that of their start
  abbrev labeled : FamilyForms → NodeForms → FamilyForms
  labeled walks node = record walks { start_label = node.label }

  region-few : (walks : FamilyForms) (node : NodeForms) (statement : ℕ) (region : Option WalkRegion) → AllHold (region_walk (family_setting program trees (credited_nests term) walks node.label) [] statement region)
      → HasRegionPieces (family_setting program trees [] walks node.label) statement region
  region-few walks node statement None h = tt
  region-few walks node statement (Some region) h =
      walk-few program trees (credited_nests term) (labeled walks node) node.label statement (Index statement ∷ Key (codes "region") ∷ Key (codes "tree") ∷ []) []
      (region_context (family_setting program trees [] walks node.label) statement region.rows) region.tree h

  nodes-few : (walks : FamilyForms) (statement : ℕ) (nodes : List (Option NodeForms)) → AllHold (numbered (node_walk program trees (credited_nests term) walks []) statement nodes)
      → HaveNodePieces program trees walks statement nodes
  nodes-few walks statement [] h = tt
  nodes-few walks statement (None ∷ nodes) h = (tt, nodes-few walks (suc statement) nodes h)
  nodes-few walks statement (Some node ∷ nodes) h =
      let here : List Claim = node_walk program trees (credited_nests term) walks [] statement (Some node) in
      let later : List Claim = numbered (node_walk program trees (credited_nests term) walks []) (suc statement) nodes in
      (region-few walks node statement node.region (AllHold-left here later h), nodes-few walks (suc statement) nodes (AllHold-right here later h))

  ways-few : (family : JointFamily) (place : List Step) (index : ℕ) (ways : List WayTerm) → AllHold (numbered (way_claims program trees term family place) index ways)
      → AllByRecursion (HasWayPieces program trees family) ways
  ways-few family place index [] h = tt
  ways-few family place index (way ∷ ways) h =
      let here : List Claim = way_claims program trees term family place index way in
      let later : List Claim = numbered (way_claims program trees term family place) (suc index) ways in
      let walks : FamilyForms = way_walks family way in (
        nodes-few walks 0 walks.nodes (nodes-moved program trees term walks (member_at place (codes "ways") index) [] 0 walks.nodes (AllHold-left here later h)),
        ways-few family place (suc index) ways (AllHold-right here later h),
      )

  families-few : (place : List Step) (index : ℕ) (families : List JointFamily) → AllHold (numbered (family_claims program trees term place) index families)
      → AllByRecursion (HasFamilyPieces program trees term) families
  families-few place index [] h = tt
  families-few place index (family ∷ families) h =
      let here : List Claim = family_claims program trees term place index family in
      let later : List Claim = numbered (family_claims program trees term place) (suc index) families in
      let inner : List Step = member_at place (codes "families") index in
      let starts : List Claim = numbered (start_claims program trees term inner) 0 (part_walks family term.parts family.starts) in
      let ways : List Claim = numbered (way_claims program trees term family inner) 0 family.ways in
      let own : AllHold (starts ++ ways) = AllHold-left here later h in (
        record { starts = starts-few inner 0 (part_walks family term.parts family.starts) (AllHold-left starts ways own); ways = ways-few family inner 0 family.ways (AllHold-right starts ways own) },
        families-few place (suc index) families (AllHold-right here later h),
      )

-- where the claims of its families hold, a term has pieces
pub has-pieces : (program : AffineProgram) (trees : List (List SelectionTree)) (term : JointTerm) (place : List Step) → AllHold (families_claims program trees place term) → HasJointPieces program trees term
has-pieces program trees term place h = families-few program trees term place 0 term.families h
