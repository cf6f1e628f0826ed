-- The inputs that a complete pebbling has to load.
use Rattle.std.specs.Prelude.{ℕ, ◌<◌, ◌≤◌, nat_eq, List, [], ◌∷◌, length, Contains}
use Rattle.std.specs.List.{AllByRecursion, IsDistinct}
use Rattle.iolb_model.specs.declared.game.Move.{Move}
use Rattle.iolb_model.specs.Graph.{ComputationGraph}
use Rattle.iolb_model.specs.Game.{predecessors_at, IsCompletePebbling, loads_of}
use Rattle.pebble_game.specs.Loaded.{AreLoaded}

-- an input that is a predecessor of some instance
pub record IsReadInput (graph : ComputationGraph) (vertex : ℕ) : Type 0 where
  pub input : graph.instances ≤ vertex
  pub reader : ℕ
  pub there : reader < graph.instances
  pub read : Contains (predecessors_at graph reader) vertex

-- In every complete pebbling of any graph, with any number of red pebbles, each input that is read is loaded at least once.
abbrev pub ReadInputIsLoaded : Type 0
ReadInputIsLoaded = (graph : ComputationGraph) (s : ℕ) (moves : List Move) (vertex : ℕ) → IsCompletePebbling graph s moves
    → IsReadInput graph vertex → 1 ≤ loads_of (vertex ∷ []) moves

-- So of different ones there are at least as many loads as they are.
abbrev pub ReadInputsAreLoaded : Type 0
ReadInputsAreLoaded = (graph : ComputationGraph) (s : ℕ) (moves : List Move) (inputs : List ℕ) → IsCompletePebbling graph s moves
    → IsDistinct nat_eq inputs → AllByRecursion (IsReadInput graph) inputs → length inputs ≤ loads_of inputs moves

-- Of any list of them each is loaded.
abbrev pub EachReadInputIsLoaded : Type 0
EachReadInputIsLoaded = (graph : ComputationGraph) (s : ℕ) (moves : List Move) (inputs : List ℕ) → IsCompletePebbling graph s moves
    → AllByRecursion (IsReadInput graph) inputs → AreLoaded inputs moves
