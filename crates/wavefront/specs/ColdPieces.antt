-- The pieces of a cold term's footprint.
use Rattle.std.specs.Prelude.{if◌then◌else◌, List, [], ◌∷◌, ◌++◌, map, length}
use Rattle.std.specs.List.{AllByRecursion}
use Rattle.iolb_model.specs.Form.{AffineForm}
use Rattle.iolb_model.specs.Program.{AffineProgram, IsWellFormed}
use Rattle.claims.specs.Claims.{AllHold}
use Rattle.claims.specs.declared.place.Step.{Step}
use Rattle.affine_form.specs.Rows.{widened}
use Rattle.claims.specs.Shown.{IsFew}
use Rattle.dep_quast.specs.Context.{reference_of}
use Rattle.dep_quast.specs.Tree.{SelectionTree}
use Rattle.dep_quast.specs.Truth.{IsTrueTree}
use Rattle.footprint_pieces.specs.declared.piece.Target.TheVariants.{Cell}
use Rattle.reuse_paths.specs.LeafClaims.{LeafClaim, is_stop}
use Rattle.footprint_pieces.specs.Pieces.{FootprintPiece, AreCovered}
use Rattle.wavefront.specs.ColdClaims.{instance_claims}
use Rattle.dep_quast.specs.OpenLeaves.{OpenLeaf, open_leaves}
use Rattle.wavefront.specs.Loads.{ColdFits, footprint_of}
use Rattle.wavefront.specs.Term.{ColdTerm, nest_variables, nest_system, instance_point, cell_forms}

-- the rows of the nest's points that come to a leaf with these tests
abbrev pub rows_at_leaf : AffineProgram → ColdTerm → List AffineForm → List AffineForm
rows_at_leaf program term tests = (nest_system program term).rows ++ tests

-- the cells that the points read which come to a leaf with these tests
abbrev pub leaf_piece : AffineProgram → ColdTerm → List AffineForm → FootprintPiece
leaf_piece program term tests = record {
  target = Cell (reference_of program term.reader).array;
  vars = length term.nest;
  rows = rows_at_leaf program term tests;
  point = map (widened (nest_variables program term)) (cell_forms program term);
}

-- those of the leaves at which the entries say that a walk stops
abbrev pub stop_pieces : AffineProgram → ColdTerm → List OpenLeaf → List LeafClaim → List FootprintPiece
stop_pieces program term [] entries = []
stop_pieces program term (l ∷ leaves) [] = []
stop_pieces program term (l ∷ leaves) (entry ∷ entries) =
    if is_stop entry then leaf_piece program term l.tests ∷ stop_pieces program term leaves entries else stop_pieces program term leaves entries

-- the leaves of the source tree of a cold term's read that aren't empty
abbrev pub leaves_of : AffineProgram → SelectionTree → ColdTerm → List OpenLeaf
leaves_of program tree term = open_leaves (nest_variables program term) (instance_point program term) [] tree

-- The pieces of a cold term over the source tree of its read.
abbrev pub cold_pieces : AffineProgram → SelectionTree → ColdTerm → List FootprintPiece
cold_pieces program tree term = stop_pieces program term (leaves_of program tree term) term.leaves

-- the rows at each leaf are few
abbrev pub LeavesAreFew : AffineProgram → SelectionTree → ColdTerm → Type 0
LeavesAreFew program tree term = AllByRecursion (λ (l : OpenLeaf). IsFew (length (rows_at_leaf program term l.tests))) (leaves_of program tree term)

-- A cold term whose claims hold, over a true source tree, has few rows at each leaf, and its pieces cover its footprint.
abbrev pub ColdPiecesCover : Type 0
ColdPiecesCover = (program : AffineProgram) (place : List Step) (tree : SelectionTree) (term : ColdTerm) → IsWellFormed program → ColdFits program tree term
    → IsTrueTree program term.reader tree → AllHold (instance_claims program place tree term)
    → LeavesAreFew program tree term × AreCovered program (footprint_of program term) (cold_pieces program tree term)
