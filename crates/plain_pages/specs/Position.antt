-- Lines and columns (as the GNU coding standards count them in messages: from 1, columns by bytes).
use Rattle.std.specs.Prelude.{ℕ, ◌==◌, ◌+◌, cond, List, [], ◌∷◌}

-- the number of the line behind these bytes, where they begin on the line of this number
unfoldable pub line_behind : List ℕ → ℕ → ℕ
line_behind [] line = line
line_behind (byte ∷ bytes) line = line_behind bytes (cond (byte == 10) (line + 1) line)

-- the number of the column behind these bytes, where they begin in the column of this number
unfoldable pub column_behind : List ℕ → ℕ → ℕ
column_behind [] column = column
column_behind (byte ∷ bytes) column = column_behind bytes (cond (byte == 10) 1 (column + 1))
