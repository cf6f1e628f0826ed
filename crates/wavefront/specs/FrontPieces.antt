-- The piece of a wavefront term's footprint.
use Rattle.std.specs.Prelude.{List, [], ◌∷◌, map, length, Option, Some, None}
use Rattle.iolb_model.specs.Program.{AffineProgram, IsWellFormed}
use Rattle.affine_form.specs.Rows.{widened}
use Rattle.dep_quast.specs.Context.{reference_of}
use Rattle.footprint_pieces.specs.declared.piece.Target.{Target}
use Rattle.footprint_pieces.specs.declared.piece.Target.TheVariants.{Cell, Instance}
use Rattle.footprint_pieces.specs.Pieces.{FootprintPiece, AreCovered}
use Rattle.reuse_paths.specs.Walks.{SpotForms}
use Rattle.wavefront.specs.FrontClaims.{front_variables, front_system, word_forms}
use Rattle.wavefront.specs.Fronts.{IsSoundFront, front_footprint}
use Rattle.wavefront.specs.FrontTerm.{WavefrontTerm, user_read}

-- whose vertices the words are: the array's that the user reads where they are inputs, and else the statement's that wrote them
abbrev pub front_target : AffineProgram → WavefrontTerm → Option SpotForms → Target
front_target program term None = Cell (reference_of program (user_read term)).array
front_target program term (Some spot) = Instance spot.statement

-- the words of the nest's points
abbrev pub front_piece : AffineProgram → WavefrontTerm → FootprintPiece
front_piece program term = record {
  target = front_target program term term.source;
  vars = length term.nest;
  rows = (front_system program term).rows;
  point = map (widened (front_variables program term)) (word_forms program term);
}

-- The pieces of a wavefront term: this one.
abbrev pub front_pieces : AffineProgram → WavefrontTerm → List FootprintPiece
front_pieces program term = front_piece program term ∷ []

-- The piece of a sound wavefront term covers its footprint.
abbrev pub FrontPiecesCover : Type 0
FrontPiecesCover = (program : AffineProgram) (term : WavefrontTerm) → IsWellFormed program → IsSoundFront program term
    → AreCovered program (front_footprint program term) (front_pieces program term)
