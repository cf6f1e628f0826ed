-- The texts of matrices: their rows. (Their type keeps their limits.)
use Rattle.std.specs.Prelude.{◌≡◌, ◌≤◌, ℕ, zero, suc, ◌==◌, ℤ, List, [], ◌∷◌, ◌++◌, map, take, drop, length, false, if◌then◌else◌, Option, None, Some, Ok, IfOk, Vec}
use Rattle.std.specs.Global.{Global}
use Rattle.std.specs.List.{AllByRecursion}
use Rattle.iolb_model.specs.declared.limits.TheConstants.{NUMBER_SIZE, NEST_VARIABLES}
use Rattle.affine_form.specs.Form.{IsSmall}
use Rattle.affine_form.specs.Matrix.{IntegerMatrix}
use Rattle.serde_json.specs.Data.{Data}
use Rattle.json_parts.specs.Given.{given_behind}
use Rattle.json_parts.specs.Json.{reads_short_list, each, reads_integer, elements_of}
use Rattle.json_parts.specs.Outcome.{Outcome, ◌>>=◌, fault}
use Rattle.json_parts.specs.Shape.{Shape}
use Rattle.json_parts.specs.Truths.{never}
use Rattle.json_parts.specs.Written.{list, whole}

-- A row of at most six entries, of size below 2^20, as many as in the first row.
unfoldable pub reads_row : ℕ → Data → Outcome (List ℤ)
reads_row columns d = do
  members ← reads_short_list 6 d
  entries ← each (reads_integer NUMBER_SIZE) 0 members
  if length entries == columns then Ok entries else fault 2

-- the entries of rows, one after the other
abbrev pub all_entries : List (List ℤ) → List ℤ
all_entries [] = []
all_entries (row ∷ rows) = row ++ all_entries rows

abbrev pub member_count : Option (List Data) → ℕ
member_count None = 0
member_count (Some members) = length members

-- how many members the first array has
abbrev pub columns_of : List Data → ℕ
columns_of [] = 0
columns_of (d ∷ ds) = member_count (elements_of d)

abbrev pub matrix_of : ℕ → List (List ℤ) → IntegerMatrix
matrix_of columns rows = record { rows = length rows; columns = columns; cells = all_entries rows }

-- At most six rows. A matrix without rows has no columns.
unfoldable pub reads_matrix : Data → Outcome IntegerMatrix
reads_matrix d = do
  members ← reads_short_list 6 d
  rows ← each (reads_row (columns_of members)) 0 members
  Ok (matrix_of (columns_of members) rows)

-- so many rows of this length
abbrev pub rows_of : ℕ → ℕ → List ℤ → List (List ℤ)
rows_of zero columns cells = []
rows_of (suc rows) columns cells = take columns cells ∷ rows_of rows columns (drop columns cells)

abbrev pub row_data : List ℤ → Data
row_data row = list (map whole row)

abbrev pub matrix_data : IntegerMatrix → Data
matrix_data matrix = list (map row_data (rows_of matrix.rows matrix.columns matrix.cells))

pub matrix_kept : (d : Data) → IfOk (reads_matrix d) (λ _. Unit {0})
unfolding reads_matrix
matrix_kept d = given_behind (reads_short_list 6 d) _ (λ _. Unit {0}) (λ members. given_behind (each (reads_row (columns_of members)) 0 members) _ (λ _. Unit {0}) (λ rows. tt))

abbrev pub matrix_shape : Shape IntegerMatrix
matrix_shape = record { reads = reads_matrix; data_of = matrix_data; IsWithin = λ _. Unit {0}; kept = matrix_kept; is_present = false; present = never }

-- ---- the rows as vectors

abbrev pub row_items : Vec ℤ Global → List ℤ
row_items row = row.items

-- so many entries, six at most, of size below 2^20
pub record IsRow (columns : ℕ) (row : Vec ℤ Global) : Type 0 where
  pub all : length row.items ≡ columns
  pub few : columns ≤ NEST_VARIABLES
  pub small : AllByRecursion (IsSmall NUMBER_SIZE) row.items
