-- The pieces of a joint term's footprint, and when there are few rows in each context of them.
use Rattle.std.specs.Prelude.{ℕ, suc, ⊤, List, [], ◌∷◌, flat_map, Option, None, Some}
use Rattle.std.specs.List.{AllByRecursion}
use Rattle.iolb_model.specs.Program.{AffineProgram}
use Rattle.claims.specs.Claims.{AllHold}
use Rattle.dep_quast.specs.Tree.{SelectionTree}
use Rattle.footprint_pieces.specs.Pieces.{FootprintPiece}
use Rattle.reuse_paths.specs.Families.{FamilyForms, NodeForms}
use Rattle.reuse_paths.specs.FamilyClaims.{family_setting, start_rows}
use Rattle.reuse_paths.specs.FewContexts.{few_walk}
use Rattle.reuse_paths.specs.WalkSettings.{WalkSetting, region_context}
use Rattle.reuse_paths.specs.Walks.{WalkRegion}
use Rattle.joint_partition.specs.Claims.{family_pieces}
use Rattle.joint_partition.specs.Term.{JointFamily, JointTerm, PartWalks, WayTerm, part_walks, way_walks}

-- those of each of its families, family by family
abbrev pub joint_pieces : AffineProgram → List (List SelectionTree) → JointTerm → List FootprintPiece
joint_pieces program trees term = flat_map (family_pieces program trees term) term.families

-- the rows of each context of the walks from a part are few
abbrev pub HasStartPieces : AffineProgram → List (List SelectionTree) → PartWalks → Type 0
HasStartPieces program trees from =
    let walk = family_setting program trees [] from.walks from.walks.start_label in
    AllHold (few_walk walk from.part.statement [] (region_context walk from.part.statement (start_rows walk from.part.statement from.part.nest)) from.walks.start)

-- so are those of the regions of a way, from a statement on
abbrev pub HasRegionPieces : WalkSetting → ℕ → Option WalkRegion → Type 0
HasRegionPieces walk statement None = ⊤
HasRegionPieces walk statement (Some region) = AllHold (few_walk walk statement [] (region_context walk statement region.rows) region.tree)

abbrev pub HasNodePieces : AffineProgram → List (List SelectionTree) → FamilyForms → ℕ → Option NodeForms → Type 0
HasNodePieces program trees walks statement None = ⊤
HasNodePieces program trees walks statement (Some node) = HasRegionPieces (family_setting program trees [] walks node.label) statement node.region

abbrev pub HaveNodePieces : AffineProgram → List (List SelectionTree) → FamilyForms → ℕ → List (Option NodeForms) → Type 0
HaveNodePieces program trees walks statement [] = ⊤
HaveNodePieces program trees walks statement (node ∷ nodes) = HasNodePieces program trees walks statement node × HaveNodePieces program trees walks (suc statement) nodes

abbrev pub HasWayPieces : AffineProgram → List (List SelectionTree) → JointFamily → WayTerm → Type 0
HasWayPieces program trees family way = HaveNodePieces program trees (way_walks family way) 0 (way_walks family way).nodes

-- and those of a family
pub record HasFamilyPieces (program : AffineProgram) (trees : List (List SelectionTree)) (term : JointTerm) (family : JointFamily) : Type 0 where
  pub starts : AllByRecursion (HasStartPieces program trees) (part_walks family term.parts family.starts)
  pub ways : AllByRecursion (HasWayPieces program trees family) family.ways

-- The rows of each context of its families are few.
abbrev pub HasJointPieces : AffineProgram → List (List SelectionTree) → JointTerm → Type 0
HasJointPieces program trees term = AllByRecursion (HasFamilyPieces program trees term) term.families
