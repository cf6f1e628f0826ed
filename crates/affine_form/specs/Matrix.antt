-- Matrices of whole numbers.
use Rattle.std.specs.Prelude.{◌≡◌, ℕ, ◌+◌, ◌*◌, ◌≤◌, ℤ, pos, List, length, slice_index_or}
use Rattle.iolb_model.specs.declared.limits.TheConstants.{NEST_VARIABLES}

-- a matrix by its entries, row after row
pub record IntegerMatrix : Type 0 where
  pub rows : ℕ
  pub columns : ℕ
  pub cells : List ℤ

-- the entry in a row and a column
abbrev pub entry : IntegerMatrix → ℕ → ℕ → ℤ
entry matrix row column = slice_index_or matrix.cells (row * matrix.columns + column) (pos 0)

-- at most 6 by 6, no columns without rows, and an entry for each row and column
pub record HasShape (rows columns : ℕ) (cells : List ℤ) : Type 0 where
  pub few_rows : rows ≤ NEST_VARIABLES
  pub few_columns : columns ≤ NEST_VARIABLES
  pub rows_first : rows ≡ 0 → columns ≡ 0
  pub full : length cells ≡ rows * columns
