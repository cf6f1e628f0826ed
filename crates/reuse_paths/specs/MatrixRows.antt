-- The rows of matrices.
use Rattle.std.specs.Prelude.{◌*◌, ℤ, List, map, take, drop}
use Rattle.std.specs.List.{range_with_len}
use Rattle.affine_form.specs.Matrix.{IntegerMatrix}

-- a matrix's rows
abbrev pub matrix_rows : IntegerMatrix → List (List ℤ)
matrix_rows matrix = map (λ row. take matrix.columns (drop (row * matrix.columns) matrix.cells)) (range_with_len 0 matrix.rows)
