-- The pieces of a family's footprint.
use Rattle.std.specs.Prelude.{ℕ, suc, ℤ, List, [], ◌∷◌, ◌++◌, Option, Some, None}
use Rattle.std.specs.List.{AllByRecursion}
use Rattle.iolb_model.specs.Form.{AffineForm}
use Rattle.iolb_model.specs.Program.{AffineProgram, IsWellFormed}
use Rattle.iolb_model.specs.Bound.{IsAdmitted}
use Rattle.claims.specs.Claims.{AllHold, numbered}
use Rattle.claims.specs.declared.place.Step.{Step}
use Rattle.affine_form.specs.Matrix.{IntegerMatrix}
use Rattle.dep_quast.specs.Tree.{SelectionTree}
use Rattle.reuse_paths.specs.Families.{CreditedNest, FamilyForms}
use Rattle.reuse_paths.specs.FamilyClaims.{family_setting, start_rows, start_tree, node_walk, family_claims}
use Rattle.reuse_paths.specs.FamilyFits.{FamilyFits, WalksFit}
use Rattle.reuse_paths.specs.FamilyFootprint.{instances_in, family_footprint}
use Rattle.reuse_paths.specs.Places.{IsExecuted}
use Rattle.footprint_pieces.specs.Pieces.{FootprintPiece, AreCovered}
use Rattle.dep_quast.specs.Trees.{RowsFit, RowsAreTrue}
use Rattle.reuse_paths.specs.WalkSettings.{WalkSetting, region_context}
use Rattle.reuse_paths.specs.WalkPieces.{walk_pieces}
use Rattle.reuse_paths.specs.Walks.{WalkRegion}

-- those of the regions of nodes, from a statement on
abbrev pub region_pieces : WalkSetting → ℕ → Option WalkRegion → List FootprintPiece
region_pieces walk statement None = []
region_pieces walk statement (Some region) = walk_pieces walk statement (region_context walk statement region.rows) region.tree

abbrev pub regions_pieces : WalkSetting → ℕ → List (Option WalkRegion) → List FootprintPiece
regions_pieces walk statement [] = []
regions_pieces walk statement (region ∷ regions) = region_pieces walk statement region ++ regions_pieces walk (suc statement) regions

-- The pieces of a family: those of its start walk, then those of its regions, in the order of statements.
abbrev pub family_pieces : AffineProgram → List (List SelectionTree) → ℕ → List (AffineForm × AffineForm) → FamilyForms → List FootprintPiece
family_pieces program trees statement nest family =
    let walk = family_setting program trees [] family family.start_label in
    walk_pieces walk statement (region_context walk statement (start_rows walk statement nest)) family.start ++ regions_pieces walk 0 walk.nodes

-- At all admitted parameter values each vertex of the footprint of a family whose claims hold, over true source trees, is in
-- one of its pieces, where the points of the nest are instances.
abbrev pub FamilyPiecesCover : Type 0
FamilyPiecesCover = (program : AffineProgram) (trees : List (List SelectionTree)) (statement : ℕ) (nest : List (AffineForm × AffineForm)) (matrix : IntegerMatrix)
    (credits : List CreditedNest) (family : FamilyForms) (place : List Step) → IsWellFormed program → RowsFit program 0 trees → RowsAreTrue program 0 trees
    → FamilyFits program trees statement nest matrix credits family → AllHold (family_claims program trees statement nest matrix credits family place)
    → ((parameters : List ℤ) → IsAdmitted program parameters → AllByRecursion (IsExecuted program parameters) (instances_in statement nest parameters))
    → AreCovered program (family_footprint program statement nest family) (family_pieces program trees statement nest family)

-- So do those of walks whose claims hold, wherever their trees stand.
abbrev pub WalkPiecesCover : Type 0
WalkPiecesCover = (program : AffineProgram) (trees : List (List SelectionTree)) (statement : ℕ) (nest : List (AffineForm × AffineForm)) (credits : List CreditedNest) (family : FamilyForms)
    (size : ℕ) (start_place nodes_place : List Step) → IsWellFormed program → RowsFit program 0 trees → RowsAreTrue program 0 trees
    → WalksFit program trees statement credits family size → AllHold (start_tree program trees statement nest credits family start_place)
    → AllHold (numbered (node_walk program trees credits family nodes_place) 0 family.nodes)
    → ((parameters : List ℤ) → IsAdmitted program parameters → AllByRecursion (IsExecuted program parameters) (instances_in statement nest parameters))
    → AreCovered program (family_footprint program statement nest family) (family_pieces program trees statement nest family)
