-- A matrix and its inverse, both of whole numbers.
use Rattle.std.specs.Prelude.{◌≡◌, ◌≢◌, ℕ, zero, suc, ◌<◌, ◌==◌, if◌then◌else◌, ℤ, pos, ◌+ℤ◌, ◌*ℤ◌}
use Rattle.affine_form.specs.Matrix.{IntegerMatrix, entry}

-- a matrix, and one that is to be its inverse
pub record InversePair : Type 0 where
  pub matrix : IntegerMatrix
  pub inverse : IntegerMatrix

-- the sum of a function over the numbers below a bound
abbrev pub sum_below : ℕ → (ℕ → ℤ) → ℤ
sum_below zero f = pos 0
sum_below (suc n) f = sum_below n f +ℤ f n

-- the entry of the product of two matrices, the first on the left
abbrev pub product_entry : IntegerMatrix → IntegerMatrix → ℕ → ℕ → ℤ
product_entry left right row column =
    sum_below left.columns (λ k. entry left row k *ℤ entry right k column)

-- the entry of the identity
abbrev pub identity_entry : ℕ → ℕ → ℤ
identity_entry row column = if row == column then pos 1 else pos 0

-- as many rows as columns, so many
pub record IsSquare (size : ℕ) (matrix : IntegerMatrix) : Type 0 where
  pub rows : matrix.rows ≡ size
  pub columns : matrix.columns ≡ size

-- in a row, the product's entries in the columns below a bound are the identity's
abbrev pub AgreesBelow : IntegerMatrix → IntegerMatrix → ℕ → ℕ → Type 0
AgreesBelow left right row bound =
    (column : ℕ) → column < bound → product_entry left right row column ≡ identity_entry row column

-- the product is the identity
abbrev pub IsInverse : IntegerMatrix → IntegerMatrix → Type 0
IsInverse inverse matrix = (row : ℕ) → row < inverse.rows → AgreesBelow inverse matrix row matrix.columns

-- the first entry, by rows, at which the product isn't the identity
pub record IsFirstDifference (inverse matrix : IntegerMatrix) (row column : ℕ) : Type 0 where
  pub row_in : row < inverse.rows
  pub column_in : column < matrix.columns
  pub differs : product_entry inverse matrix row column ≢ identity_entry row column
  pub rows_before : (before : ℕ) → before < row → AgreesBelow inverse matrix before matrix.columns
  pub columns_before : AgreesBelow inverse matrix row column
