-- What is found of a program's computation graph.
use Rattle.std.specs.Prelude.{◌≡◌, ℕ, ◌<◌, ◌≤◌, ℤ, Bool, false, List, map, Option, Some, None, Vec, slice_set}
use Rattle.std.specs.Global.{Global}
use Rattle.iolb_model.specs.Program.{AffineProgram}
use Rattle.iolb_model.specs.Execution.{execution}
use Rattle.iolb_model.specs.Graph.{ComputationGraph}
use Rattle.iolb_model.specs.Game.{vertices}
use Rattle.loop_graph.specs.Runs.{with_point, run_of}
use Rattle.loop_graph.specs.declared.listed.Run.{Run}
use Rattle.loop_graph.specs.declared.predecessors.Found.{Found}
use Rattle.loop_graph.specs.declared.limits.TheConstants.{VERTICES}

-- the runs are all instances of a program at these parameter values, in the order of execution
abbrev pub AreListed : AffineProgram → List ℤ → List Run → Type 0
AreListed program parameters runs = map run_of runs ≡ map (with_point parameters) (execution program parameters)

-- marks with that of a vertex taken off, if there is a vertex and it has one
abbrev pub unmarked : List Bool → Option ℕ → List Bool
unmarked marks None = marks
unmarked marks (Some vertex) = slice_set marks vertex false

-- the number of inputs of a graph of at most 2^21 vertices, the predecessors of its instances, and its last writers
pub record IsWithin (graph : ComputationGraph) (found : Found) : Type 0 where
  pub few : vertices graph ≤ VERTICES
  pub inputs : found.inputs ≡ graph.inputs
  pub predecessors : map (λ (preds : Vec ℕ Global). preds.items) found.preds.items ≡ graph.predecessors
  pub last_writers : found.last.items ≡ graph.last_writers

-- these, or none where there are more vertices
abbrev pub AreFound : ComputationGraph → Option Found → Type 0
AreFound graph None = VERTICES < vertices graph
AreFound graph (Some found) = IsWithin graph found
