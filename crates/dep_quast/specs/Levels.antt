-- The levels of the order of two statements, and the writers of an array.
use Rattle.std.specs.Prelude.{◌≡◌, ℕ, suc, ◌+◌, ◌*◌, ◌<◌, ◌==◌, nat_lt, if◌then◌else◌, List, [], ◌∷◌, length, flat_map}
use Rattle.std.specs.List.{range_with_len}
use Rattle.iolb_model.specs.Program.{Statement, AffineProgram, statement_at}
use Rattle.iolb_model.specs.Order.{common_loops}

-- How many levels there are at which an instance of t may come before one of s: one for each loop around both, and one
-- more where t stands before s in the text.
abbrev pub level_count : AffineProgram → ℕ → ℕ → ℕ
level_count program t s = length (common_loops program t s) + (if nat_lt t s then 1 else 0)

-- those levels, ascending
abbrev pub levels : AffineProgram → ℕ → ℕ → List ℕ
levels program t s = range_with_len 0 (level_count program t s)

-- the numbers of the statements that write an array, counted from the first number
abbrev pub writers_from : ℕ → List Statement → ℕ → List ℕ
writers_from first [] array = []
writers_from first (statement ∷ statements) array =
    if statement.writes.array == array then first ∷ writers_from (suc first) statements array else writers_from (suc first) statements array

-- the numbers of the statements that write an array, ascending
abbrev pub writers : AffineProgram → ℕ → List ℕ
writers program array = writers_from 0 program.statements array

-- a statement that is there writes the array
abbrev pub IsWriter : AffineProgram → ℕ → ℕ → Type 0
IsWriter program array writer = (writer < length program.statements) × ((statement_at program writer).writes.array ≡ array)

-- how many rows say that one instance comes before another at a level, with so many loops around both
abbrev pub order_count : ℕ → ℕ → ℕ
order_count common level = 2 * level + (if nat_lt level common then 1 else 0)

-- for each writer of an array, ascending, the levels at which it may come before s
abbrev pub levels_before : AffineProgram → List ℕ → ℕ → List ℕ
levels_before program writers s = flat_map (λ writer. levels program writer s) writers

-- the same, again for each level at which it may come after t
abbrev pub levels_between : AffineProgram → ℕ → List ℕ → ℕ → List ℕ
levels_between program t writers s = flat_map (λ writer. flat_map (λ after. levels program writer s) (levels program t writer)) writers
