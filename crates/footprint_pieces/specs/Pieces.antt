-- Pieces of footprints: vertices of the computation graph that are given by rows and a point. (Images of sets of integer
-- points, as in polyhedral models of programs: Feautrier 1991.)
use Rattle.std.specs.Prelude.{◌≡◌, ◌⊎◌, ℕ, ◌+◌, ◌≤◌, ℤ, List, [], ◌∷◌, ◌++◌, map, length, take, slice_get, Some, true, ⊤, Vec}
use Rattle.std.specs.Global.{Global}
use Rattle.std.specs.List.{AllByRecursion}
use Rattle.iolb_model.specs.Form.{AffineForm}
use Rattle.iolb_model.specs.Program.{AffineProgram}
use Rattle.iolb_model.specs.Bound.{IsAdmitted}
use Rattle.iolb_model.specs.Domain.{IsAt}
use Rattle.iolb_model.specs.Execution.{execution}
use Rattle.iolb_model.specs.Footprint.{Footprint}
use Rattle.iolb_model.specs.Game.{stands_in}
use Rattle.iolb_model.specs.Graph.{input_cells}
use Rattle.affine_form.specs.Form.{IsSmallForm}
use Rattle.affine_form.specs.Rows.{widened}
use Rattle.affine_form.specs.Substitution.{values_at}
use Rattle.affine_form.specs.System.{AllOver, IsMet}
use Rattle.footprint_pieces.specs.declared.piece.Piece.{Piece}
use Rattle.footprint_pieces.specs.declared.piece.Target.{Target}
use Rattle.footprint_pieces.specs.declared.piece.Target.TheVariants.{Cell, Instance}
use Rattle.iolb_model.specs.declared.limits.TheConstants.{NEST_VARIABLES, PUT_SIZE}

-- A piece has a target, so many variables, and rows and a point over the parameters and the variables. It is the target's
-- vertices at the point for all values of the variables at which the rows are at least 0.
pub record FootprintPiece : Type 0 where
  pub target : Target
  pub vars : ℕ
  pub rows : List AffineForm
  pub point : List AffineForm

-- the piece that the code holds
abbrev pub piece_of : Piece → FootprintPiece
piece_of piece = record { target = piece.target; vars = piece.vars; rows = piece.rows.rows; point = piece.point.items }

abbrev pub pieces_of : Vec Piece Global → List FootprintPiece
pieces_of pieces = map piece_of pieces.items

-- The vertex is that of a target at these numbers: the input cell of the array with these subscripts, which some instance
-- reads, or the statement's instance with these loop values.
abbrev pub IsVertexOf : AffineProgram → List ℤ → Target → List ℤ → ℕ → Type 0
IsVertexOf program parameters (Cell array) numbers vertex = (place : ℕ) × (vertex ≡ length (execution program parameters) + place)
    × (slice_get (input_cells program parameters) place ≡ Some (record { array = array; subscripts = numbers }))
IsVertexOf program parameters (Instance statement) numbers vertex = IsAt program parameters vertex (record { statement = statement; values = numbers })

-- The vertex is one of a piece's at the parameter values.
pub record IsInPiece (program : AffineProgram) (parameters : List ℤ) (piece : FootprintPiece) (vertex : ℕ) : Type 0 where
  pub values : List ℤ
  pub each : length values ≡ piece.vars
  pub met : IsMet piece.rows (parameters ++ values)
  pub there : IsVertexOf program parameters piece.target (values_at piece.point (parameters ++ values)) vertex

-- It is one of some piece's.
abbrev pub IsInPieces : AffineProgram → List ℤ → List FootprintPiece → ℕ → Type 0
IsInPieces program parameters [] vertex = ⊥
IsInPieces program parameters (piece ∷ pieces) vertex = IsInPiece program parameters piece vertex ⊎ IsInPieces program parameters pieces vertex

-- At all admitted parameter values, of any size, no vertex is in pieces of both lists.
abbrev pub AreApartPieces : AffineProgram → List FootprintPiece → List FootprintPiece → Type 0
AreApartPieces program first second = (parameters : List ℤ) (vertex : ℕ) → IsAdmitted program parameters
    → IsInPieces program parameters first vertex → IsInPieces program parameters second vertex → ⊥

-- No vertex is in pieces of two of the lists.
abbrev pub ArePairwiseApart : AffineProgram → List (List FootprintPiece) → Type 0
ArePairwiseApart program [] = ⊤
ArePairwiseApart program (pieces ∷ lists) = AllByRecursion (AreApartPieces program pieces) lists × ArePairwiseApart program lists

-- Pieces cover a footprint: at all admitted parameter values each of its vertices is in one of them.
abbrev pub AreCovered : AffineProgram → Footprint → List FootprintPiece → Type 0
AreCovered program footprint pieces = (parameters : List ℤ) (vertex : ℕ) → IsAdmitted program parameters → stands_in (footprint parameters) vertex ≡ true
    → IsInPieces program parameters pieces vertex

-- A piece fits a program: it has few variables, its rows begin with the assumptions, its forms are over the parameters and
-- its variables, and the numbers of its point are small.
pub record PieceFits (program : AffineProgram) (piece : FootprintPiece) : Type 0 where
  pub few : piece.vars ≤ NEST_VARIABLES
  pub assumed : take (length program.assumptions) piece.rows ≡ map (widened (length program.parameters + piece.vars)) program.assumptions
  pub rows : AllOver (length program.parameters + piece.vars) piece.rows
  pub point : AllOver (length program.parameters + piece.vars) piece.point
  pub small : AllByRecursion (IsSmallForm PUT_SIZE) piece.point
