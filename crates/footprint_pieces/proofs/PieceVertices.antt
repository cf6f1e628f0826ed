-- Vertices of pieces.
use Rattle.std.proofs.Common.{◌≡◌, refl, sym, subst, inl, inr, ℕ, List, [], ◌∷◌, map}
use Rattle.std.specs.Prelude.{Some, slice_get}
use Rattle.std.specs.List.{position_or_len}
use Rattle.std.proofs.Math.IntN.{ℤ}
use Rattle.iolb_model.specs.Form.{AffineForm}
use Rattle.iolb_model.specs.Program.{AffineProgram}
use Rattle.iolb_model.specs.Source.{Cell as InputCell, same_cell}
use Rattle.iolb_model.specs.Graph.{input_cells, input_vertex}
use Rattle.execution_laws.proofs.Cells.{position-Member}
use Rattle.execution_laws.proofs.Members.{Member}
use Rattle.affine_form.specs.Rows.{widened}
use Rattle.affine_form.specs.Substitution.{values_at}
use Rattle.affine_form.proofs.Meaning.{form_value-widened}
use Rattle.footprint_pieces.specs.declared.piece.Target.TheVariants.{Cell}
use Rattle.footprint_pieces.specs.Pieces.{FootprintPiece, IsVertexOf, IsInPiece, IsInPieces}

pub wide-values : (vars : ℕ) (forms : List AffineForm) (point : List ℤ) → values_at (map (widened vars) forms) point ≡ values_at forms point
wide-values vars [] point = refl
wide-values vars (form ∷ forms) point =
    let first = form_value-widened vars form point in
    let others = wide-values vars forms point in cc

-- a cell that some instance reads before it is written is a vertex of its array at its subscripts
pub cell-vertex : (program : AffineProgram) (parameters numbers : List ℤ) (cell : InputCell) → Member cell (input_cells program parameters) → numbers ≡ cell.subscripts
    → IsVertexOf program parameters (Cell cell.array) numbers (input_vertex program parameters cell)
cell-vertex program parameters numbers cell member same =
    let cells : List InputCell = input_cells program parameters in
    let there : slice_get cells (position_or_len (same_cell cell) cells) ≡ Some cell = position-Member cell cells member in
    (position_or_len (same_cell cell) cells, refl, subst (λ (xs : List ℤ). slice_get cells (position_or_len (same_cell cell) cells) ≡ Some (record { array = cell.array; subscripts = xs })) (sym same) there)

-- a vertex in one of the pieces of a list is in them
pub in-pieces : (program : AffineProgram) (parameters : List ℤ) (pieces : List FootprintPiece) (piece : FootprintPiece) (vertex : ℕ) → Member piece pieces
    → IsInPiece program parameters piece vertex → IsInPieces program parameters pieces vertex
in-pieces program parameters [] piece vertex m inside = absurd m
in-pieces program parameters (p ∷ pieces) piece vertex (inl e) inside = inl (subst (λ (q : FootprintPiece). IsInPiece program parameters q vertex) e inside)
in-pieces program parameters (p ∷ pieces) piece vertex (inr m) inside = inr (in-pieces program parameters pieces piece vertex m inside)
