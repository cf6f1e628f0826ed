-- Matrices that undo the order of a reference's subscripts.
use Rattle.std.specs.Prelude.{◌≡◌, ℕ, ◌<◌, ◌⊎◌, ℤ, pos, List, [], map, slice_index_or, ◌==◌, if◌then◌else◌}
use Rattle.iolb_model.specs.Form.{dot}

-- the numbers that the rows have in one column
abbrev pub column : ℕ → List (List ℤ) → List ℤ
column place rows = map (λ row. slice_index_or row place (pos 0)) rows

-- the entry of a matrix product: a row of the first times a column of the second
abbrev pub product_entry : List (List ℤ) → List (List ℤ) → ℕ → ℕ → ℤ
product_entry first second row col = dot (slice_index_or first row []) (column col second)

-- the entry of a number times the identity matrix
abbrev pub scaled_entry : ℕ → ℕ → ℕ → ℤ
scaled_entry scale row col = if row == col then pos scale else pos 0

-- The product of two matrices is this number times the identity of this size: the first is a scaled inverse of the
-- second.
abbrev pub IsScaledInverse : ℕ → ℕ → List (List ℤ) → List (List ℤ) → Type 0
IsScaledInverse scale size first second = (row col : ℕ) → row < size → col < size → product_entry first second row col ≡ scaled_entry scale row col

-- one entry comes before another, by rows
abbrev pub ComesBefore : ℕ → ℕ → ℕ → ℕ → Type 0
ComesBefore row col row' col' = (row < row') ⊎ ((row ≡ row') × (col < col'))

-- the first entry, by rows, in which the product of two matrices isn't this number times the identity of this size
pub record IsFirstDifference (scale size : ℕ) (first second : List (List ℤ)) (row col : ℕ) : Type 0 where
  pub row_there : row < size
  pub col_there : col < size
  pub differs : product_entry first second row col ≡ scaled_entry scale row col → ⊥
  pub none_before : (row' col' : ℕ) → row' < size → col' < size → ComesBefore row' col' row col → product_entry first second row' col' ≡ scaled_entry scale row' col'
