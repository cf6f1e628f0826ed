-- The entries of the product of a matrix with the forms' coefficients past so many.
use Rattle.std.proofs.Common.{◌≡◌, refl, ◌∙◌, ap, ℕ, ◌+◌, ◌*◌, ◌<◌, List, [], ◌∷◌, get_or, take, drop}
use Rattle.std.specs.Prelude.{ℤ, pos}
use Rattle.std.proofs.lemmas.List.{get_or-drop}
use Rattle.iolb_model.specs.Form.{AffineForm, dot}
use Rattle.affine_form.specs.Matrix.{IntegerMatrix}
use Rattle.reuse_paths.specs.MatrixRows.{matrix_rows}
use Rattle.reuse_paths.proofs.Matrices.{row-is}
use Rattle.execution_laws.specs.Inverse.{column, product_entry}
use Rattle.wavefront.specs.Inverse.{coefficients_past}
use Rattle.wavefront.specs.Columns.{coefficients_at}

column_is : (parameters col : ℕ) (forms : List AffineForm) → column col (coefficients_past parameters forms) ≡ coefficients_at (parameters + col) forms
column_is parameters col [] = refl
column_is parameters col (form ∷ forms) = ap (λ (z : ℤ). z ∷ column col (coefficients_past parameters forms)) (get_or-drop parameters form.coefficients col (pos 0))
    ∙ ap (λ (l : List ℤ). get_or form.coefficients (parameters + col) (pos 0) ∷ l) (column_is parameters col forms)

pub entry_is : (matrix : IntegerMatrix) (parameters row col : ℕ) (forms : List AffineForm) → row < matrix.rows
    → product_entry (matrix_rows matrix) (coefficients_past parameters forms) row col ≡ dot (take matrix.columns (drop (row * matrix.columns) matrix.cells)) (coefficients_at (parameters + col) forms)
entry_is matrix parameters row col forms l =
    ap (λ (r : List ℤ). dot r (column col (coefficients_past parameters forms))) (row-is matrix row l)
    ∙ ap (λ (c : List ℤ). dot (take matrix.columns (drop (row * matrix.columns) matrix.cells)) c) (column_is parameters col forms)
