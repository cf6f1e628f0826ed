-- Rows and entries of matrices.
use Rattle.std.proofs.Common.{◌≡◌, sym, ◌∙◌, ap, subst, ℕ, suc, ◌+◌, ◌*◌, ◌<◌, ◌≤◌, List, [], length, get_or, take, drop, arith, add-mul, mul-le-mul}
use Rattle.std.specs.Prelude.{ℤ, pos}
use Rattle.std.specs.List.{range_with_len}
use Rattle.std.proofs.lemmas.List.{get_or-map, get_or-drop, get_or-take, length-drop, length-map, length-take-le}
use Rattle.std.proofs.lemmas.List.FromFn.{get_or-range_with_len, length-range_with_len}
use Rattle.affine_form.specs.Matrix.{IntegerMatrix, HasShape, entry}
use Rattle.reuse_paths.specs.MatrixRows.{matrix_rows}

pub row-is : (matrix : IntegerMatrix) (row : ℕ) → row < matrix.rows → get_or (matrix_rows matrix) row [] ≡ take matrix.columns (drop (row * matrix.columns) matrix.cells)
row-is matrix row l =
    get_or-map (λ (r : ℕ). take matrix.columns (drop (r * matrix.columns) matrix.cells)) (range_with_len 0 matrix.rows) row 0 [] (subst (λ (n : ℕ). row < n) (sym (length-range_with_len 0 matrix.rows)) l)
    ∙ ap (λ (r : ℕ). take matrix.columns (drop (r * matrix.columns) matrix.cells)) (get_or-range_with_len 0 matrix.rows row 0 l ∙ omega arith)

pub rows-many : (matrix : IntegerMatrix) → length (matrix_rows matrix) ≡ matrix.rows
rows-many matrix = length-map (range_with_len 0 matrix.rows) (λ (r : ℕ). take matrix.columns (drop (r * matrix.columns) matrix.cells)) ∙ length-range_with_len 0 matrix.rows

-- an entry of a row
pub row-entry : (matrix : IntegerMatrix) (row column : ℕ) → row < matrix.rows → column < matrix.columns → get_or (get_or (matrix_rows matrix) row []) column (pos 0) ≡ entry matrix row column
row-entry matrix row column l below =
    ap (λ (xs : List ℤ). get_or xs column (pos 0)) (row-is matrix row l)
    ∙ get_or-take matrix.columns (drop (row * matrix.columns) matrix.cells) column (pos 0) below
    ∙ get_or-drop (row * matrix.columns) matrix.cells column (pos 0)

-- a row has an entry for each column
pub row-long : (matrix : IntegerMatrix) (row : ℕ) → HasShape matrix.rows matrix.columns matrix.cells → row < matrix.rows → length (get_or (matrix_rows matrix) row []) ≡ matrix.columns
row-long matrix row shape l =
    ap length (row-is matrix row l)
    ∙ length-take-le matrix.columns (drop (row * matrix.columns) matrix.cells)
    (omega (arith, length-drop (row * matrix.columns) matrix.cells, shape.full, product matrix.rows row matrix.columns l)) where
      product : (rows row columns : ℕ) → row < rows → row * columns + columns ≤ rows * columns
      product rows row columns l =
          let grown : suc row * columns ≤ rows * columns = mul-le-mul (omega (arith, l)) (omega arith) in
          omega (arith, add-mul 1 row columns, grown)
