-- What holds of every computation graph (Hong and Kung 1981).
use Rattle.std.specs.Prelude.{◌≡◌, ℕ, ◌<◌, ◌^◌, ℤ, nat_eq, Bool, List, map, length, Vec}
use Rattle.std.specs.List.{AllByRecursion, IsDistinct}
use Rattle.std.specs.Global.{Global}
use Rattle.iolb_model.specs.Program.{AffineProgram}
use Rattle.iolb_model.specs.Graph.{ComputationGraph, computation_graph}
use Rattle.iolb_model.specs.Game.{vertices, predecessors_at}

-- Each instance has a list of predecessors and a mark. Its predecessors are vertices, no two of them are the same, and
-- those that are instances come before it.
pub record IsWellFormedGraph (graph : ComputationGraph) : Type 0 where
  pub lists : length graph.predecessors ≡ graph.instances
  pub marks : length graph.last_writers ≡ graph.instances
  pub there : (v : ℕ) → v < graph.instances → AllByRecursion (λ u. u < vertices graph) (predecessors_at graph v)
  pub earlier : (v : ℕ) → v < graph.instances → AllByRecursion (λ u. u < graph.instances → u < v) (predecessors_at graph v)
  pub different : (v : ℕ) → v < graph.instances → IsDistinct nat_eq (predecessors_at graph v)

-- a well-formed graph of fewer than 2^32 vertices
abbrev pub IsGraph : ComputationGraph → Type 0
IsGraph graph = IsWellFormedGraph graph × (vertices graph < 2 ^ 32)

-- the graph of these parts
abbrev pub graph_with : ℕ → ℕ → List (Vec ℕ Global) → List Bool → ComputationGraph
graph_with instances inputs predecessors last = record {
  instances = instances;
  inputs = inputs;
  predecessors = map (λ vertices. vertices.items) predecessors;
  last_writers = last;
}

-- the computation graph of every program at any parameter values is well formed
abbrev pub ComputationGraphsAreWellFormed : Type 0
ComputationGraphsAreWellFormed = (program : AffineProgram) (parameters : List ℤ) → IsWellFormedGraph (computation_graph program parameters)
