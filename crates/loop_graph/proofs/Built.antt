-- The parts of a graph, and when a program is within reach.
use Rattle.std.proofs.Common.{◌≡◌, ℕ, Bool, List, length, map, Vec, Global}
use Rattle.std.specs.Prelude.{ℤ}
use Rattle.iolb_model.specs.Program.{AffineProgram}
use Rattle.iolb_model.specs.Execution.{execution}
use Rattle.iolb_model.specs.Graph.{computation_graph}
use Rattle.pebble_game.specs.Graphs.{graph_with}

module _ (program : AffineProgram) (parameters : List ℤ) where
  -- the parts of the program's graph make it
  pub whole : (instances inputs : ℕ) (preds : List (Vec ℕ Global)) (last : List Bool) → instances ≡ length (execution program parameters)
      → inputs ≡ (computation_graph program parameters).inputs → map (λ (vertices : Vec ℕ Global). vertices.items) preds ≡ (computation_graph program parameters).predecessors
      → last ≡ (computation_graph program parameters).last_writers → graph_with instances inputs preds last ≡ computation_graph program parameters
  whole instances inputs preds last e f g h = λ i. record { instances = e i; inputs = f i; predecessors = g i; last_writers = h i }
