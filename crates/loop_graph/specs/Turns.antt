-- The turns of a program's loops: the values with which they enter their bodies, in the order of execution.
use Rattle.std.specs.Prelude.{ℤ, if◌then◌else◌, List, [], ◌∷◌, ◌++◌, flat_map}
use Rattle.iolb_model.specs.Form.{form_value, are_met}
use Rattle.iolb_model.specs.Program.{Item, assign, loop, guard, Row, done, next, AffineProgram}
use Rattle.iolb_model.specs.Execution.{loop_values}

-- the turns of the loops of an item and of a row at a point, which has the parameters' values and those of the loops
-- around it: those below a guard count where its rows are met
abbrev mutual
  pub item_turns : Item → List ℤ → List ℤ
  item_turns (assign statement) point = []
  item_turns (loop name direction lower upper body) point =
      flat_map (λ value. value ∷ row_turns body (point ++ value ∷ [])) (loop_values direction (form_value lower point) (form_value upper point))
  item_turns (guard rows body) point = if are_met rows point then row_turns body point else []

  pub row_turns : Row → List ℤ → List ℤ
  row_turns done point = []
  row_turns (next item row) point = item_turns item point ++ row_turns row point

-- the turns of all loops of a program at these parameter values
abbrev pub turns : AffineProgram → List ℤ → List ℤ
turns program values = row_turns program.tree values
