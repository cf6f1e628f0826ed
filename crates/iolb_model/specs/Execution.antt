-- The execution of a program at given parameter values: its statement instances in order. (Feautrier 1991.)
use Rattle.std.specs.Prelude.{ℕ, zero, suc, ℤ, pos, negsuc, ◌+ℤ◌, ◌-ℤ◌, if◌then◌else◌, List, [], ◌∷◌, ◌++◌, map, flat_map}
use Rattle.iolb_model.specs.Form.{form_value, are_met}
use Rattle.iolb_model.specs.Program.{Direction, upward, downward, Item, assign, loop, guard, Row, done, next, AffineProgram}

-- a statement, by its number, with the values of the loops around it, outermost first
pub record Instance : Type 0 where
  pub statement : ℕ
  pub values : List ℤ

-- a whole number as a natural one, and 0 where it is negative
abbrev pub natural : ℤ → ℕ
natural (pos n) = n
natural (negsuc n) = 0

-- so many whole numbers, rising by one from the first
abbrev pub rising : ℤ → ℕ → List ℤ
rising first zero = []
rising first (suc count) = first ∷ rising (first +ℤ pos 1) count

-- so many whole numbers, falling by one from the first
abbrev pub falling : ℤ → ℕ → List ℤ
falling first zero = []
falling first (suc count) = first ∷ falling (first -ℤ pos 1) count

-- how many whole numbers there are from lower to upper, both included: none where upper is below lower
abbrev pub range_size : ℤ → ℤ → ℕ
range_size lower upper = natural ((upper -ℤ lower) +ℤ pos 1)

-- the whole numbers from lower to upper, both included, ascending
abbrev pub range : ℤ → ℤ → List ℤ
range lower upper = rising lower (range_size lower upper)

-- the values of a loop from lower to upper, in the order in which it takes them
abbrev pub loop_values : Direction → ℤ → ℤ → List ℤ
loop_values upward lower upper = range lower upper
loop_values downward lower upper = falling upper (range_size lower upper)

-- an instance of a loop's body, as an instance of the loop at this value
abbrev pub at_value : ℤ → Instance → Instance
at_value value instance = record instance { values = value ∷ instance.values }

-- The instances of an item and of a row at a point, which has the parameters' values and those of the loops
-- around it. A loop contributes its body once for each of its values, and a guard where its rows are met.
abbrev mutual
  pub item_runs : Item → List ℤ → List Instance
  item_runs (assign statement) point = (record { statement = statement; values = [] }) ∷ []
  item_runs (loop name direction lower upper body) point =
      flat_map (λ value. map (at_value value) (row_runs body (point ++ value ∷ []))) (loop_values direction (form_value lower point) (form_value upper point))
  item_runs (guard rows body) point = if are_met rows point then row_runs body point else []

  pub row_runs : Row → List ℤ → List Instance
  row_runs done point = []
  row_runs (next item row) point = item_runs item point ++ row_runs row point

-- the instances of a program at these parameter values, in the order of execution
abbrev pub execution : AffineProgram → List ℤ → List Instance
execution program values = row_runs program.tree values
