-- Reads whose words no earlier instance wrote: each different one costs a load.
use Rattle.std.specs.Prelude.{◌≡◌, ℕ, suc, ◌≤◌, ℤ, List, length, map, slice_get, Some}
use Rattle.std.specs.List.{AllByRecursion, IsDistinct}
use Rattle.iolb_model.specs.declared.game.Move.{Move}
use Rattle.iolb_model.specs.Program.{AffineProgram, statement_at}
use Rattle.iolb_model.specs.Execution.{execution}
use Rattle.iolb_model.specs.Source.{read_cell, same_cell, source_of, input}
use Rattle.iolb_model.specs.Graph.{computation_graph, input_vertex}
use Rattle.iolb_model.specs.Game.{IsCompletePebbling, loads_of}
use Rattle.iolb_model.specs.Footprint.{AreVertices}
use Rattle.pebble_game.specs.Loaded.{AreLoaded}

-- The instance of the statement at these loop values is executed, and the source of its read of this number is
-- the input cell itself.
pub record ReadsInput (program : AffineProgram) (parameters : List ℤ) (statement read : ℕ) (values : List ℤ) : Type 0 where
  pub there : suc read ≤ length (statement_at program statement).reads
  pub place : ℕ
  pub executed : slice_get (execution program parameters) place ≡ Some (record { statement = statement; values = values })
  pub source : source_of program parameters (execution program parameters) place (read_cell program parameters statement read values)
      ≡ input (read_cell program parameters statement read values)

-- the input vertices of the cells that a statement's read has at these loop values
abbrev pub read_vertices : AffineProgram → List ℤ → ℕ → ℕ → List (List ℤ) → List ℕ
read_vertices program parameters statement read points =
    map (λ (values : List ℤ). input_vertex program parameters (read_cell program parameters statement read values)) points

-- Where the sources are input cells these are vertices of the program's computation graph.
abbrev pub InputReadsAreVertices : Type 0
InputReadsAreVertices = (program : AffineProgram) (parameters : List ℤ) (statement read : ℕ) (points : List (List ℤ))
    → AllByRecursion (ReadsInput program parameters statement read) points
    → AreVertices (computation_graph program parameters) (read_vertices program parameters statement read points)

-- In every complete pebbling of a program's computation graph, with any number of red pebbles, points whose reads
-- have different input cells as sources cost a load of these cells each.
abbrev pub InputReadsAreLoaded : Type 0
InputReadsAreLoaded = (program : AffineProgram) (parameters : List ℤ) (statement read : ℕ) (points : List (List ℤ)) (s : ℕ) (moves : List Move)
    → IsCompletePebbling (computation_graph program parameters) s moves
    → AllByRecursion (ReadsInput program parameters statement read) points
    → IsDistinct same_cell (map (read_cell program parameters statement read) points)
    → length points ≤ loads_of (read_vertices program parameters statement read points) moves

-- Each of the cells is loaded, whether or not two of them are the same.
abbrev pub EachInputReadIsLoaded : Type 0
EachInputReadIsLoaded = (program : AffineProgram) (parameters : List ℤ) (statement read : ℕ) (points : List (List ℤ)) (s : ℕ) (moves : List Move)
    → IsCompletePebbling (computation_graph program parameters) s moves
    → AllByRecursion (ReadsInput program parameters statement read) points
    → AreLoaded (read_vertices program parameters statement read points) moves
