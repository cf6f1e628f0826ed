-- The entries of the product of two matrices, as sums of products of entries.
use Rattle.std.proofs.Common.{◌≡◌, sym, ◌∙◌, subst, ℕ, zero, suc, ◌<◌, List, [], ◌∷◌, length, get_or, lit≤}
use Rattle.std.specs.Prelude.{ℤ, pos, unsigned_abs}
use Rattle.std.specs.List.{AllByRecursion}
use Rattle.std.proofs.lemmas.List.{get_or-map, get_or_default, length-map}
use Rattle.affine_form.specs.Form.{IsSmall}
use Rattle.affine_form.specs.Matrix.{IntegerMatrix, entry}
use Rattle.execution_laws.specs.Inverse.{column}
use Rattle.reuse_paths.specs.MatrixRows.{matrix_rows}
use Rattle.reuse_paths.proofs.Matrices.{row-entry, rows-many}
use Rattle.iolb_model.specs.declared.limits.TheConstants.{NUMBER_SIZE}

-- a list's numbers are small, and so is what stands for one that isn't there
small-or : (cells : List ℤ) (i : ℕ) → AllByRecursion (IsSmall NUMBER_SIZE) cells → unsigned_abs (get_or cells i (pos 0)) < NUMBER_SIZE
small-or [] i h = lit≤ tt
small-or (x ∷ xs) zero h = h.0
small-or (x ∷ xs) (suc i) h = small-or xs i h.1

pub entry-small : (matrix : IntegerMatrix) (row col : ℕ) → AllByRecursion (IsSmall NUMBER_SIZE) matrix.cells → unsigned_abs (entry matrix row col) < NUMBER_SIZE
entry-small matrix row col h = small-or matrix.cells _ h

pub entry-in-row : (matrix : IntegerMatrix) (row k : ℕ) (x : ℤ) → row < matrix.rows → k < matrix.columns → x ≡ entry matrix row k → k < length (get_or (matrix_rows matrix) row [])
    → x ≡ get_or (get_or (matrix_rows matrix) row []) k x
entry-in-row matrix row k x l below is there =
    is ∙ sym (row-entry matrix row k l below) ∙ get_or_default (get_or (matrix_rows matrix) row []) k (pos 0) x there

pub entry-in-column : (matrix : IntegerMatrix) (k col : ℕ) (y : ℤ) → k < matrix.rows → col < matrix.columns → y ≡ entry matrix k col → y ≡ get_or (column col (matrix_rows matrix)) k (pos 0)
entry-in-column matrix k col y l below is =
    is ∙ sym (row-entry matrix k col l below)
    ∙ sym (get_or-map (λ (row : List ℤ). get_or row col (pos 0)) (matrix_rows matrix) k [] (pos 0) (subst (λ (n : ℕ). k < n) (sym (rows-many matrix)) l))

pub column-long : (matrix : IntegerMatrix) (col : ℕ) → length (column col (matrix_rows matrix)) ≡ matrix.rows
column-long matrix col = length-map (matrix_rows matrix) (λ (row : List ℤ). get_or row col (pos 0)) ∙ rows-many matrix
