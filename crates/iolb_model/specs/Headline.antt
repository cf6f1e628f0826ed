-- What it means that a bound holds of a program.
use Rattle.std.specs.Prelude.{ℕ, ◌≤◌, ℤ, List}
use Rattle.iolb_model.specs.declared.game.Move.{Move}
use Rattle.iolb_model.specs.Program.{AffineProgram}
use Rattle.iolb_model.specs.Graph.{computation_graph}
use Rattle.iolb_model.specs.Game.{IsCompletePebbling, loads}
use Rattle.iolb_model.specs.Bound.{IsAdmitted, Bound, bound_value}

-- A bound holds of a program where at all admitted parameter values, of any size, and for every S of at least 1,
-- every complete pebbling of the program's computation graph with S red pebbles makes at least as many loads as the
-- bound's value says. (The game of Hong and Kung 1981, without recomputation.)
abbrev pub BoundHolds : AffineProgram → Bound → Type 0
BoundHolds program bound = (values : List ℤ) (s : ℕ) (moves : List Move) → IsAdmitted program values → 1 ≤ s
    → IsCompletePebbling (computation_graph program values) s moves → bound_value bound values s ≤ loads moves
