-- What has to be stored: last writers, and instances that are loaded. (The red-blue pebble game of Hong and Kung 1981.)
use Rattle.std.specs.Prelude.{◌≡◌, ℕ, ◌<◌, ◌≤◌, nat_eq, Bool, true, List, length}
use Rattle.std.specs.List.{AllByRecursion, IsDistinct}
use Rattle.iolb_model.specs.declared.game.Move.{Move}
use Rattle.iolb_model.specs.Game.{IsCompletePebbling, is_store, marked}
use Rattle.iolb_model.specs.Graph.{ComputationGraph}
use Rattle.pebble_game.specs.Loaded.{is_loaded, loaded_among}
use Rattle.store_laws.specs.Kinds.{is_taken, taken_of}

-- whether a vertex is stored at least once, and how many stores of vertices of a set the moves make
abbrev pub is_stored : ℕ → List Move → Bool
is_stored vertex moves = is_taken is_store vertex moves

abbrev pub stores_of : List ℕ → List Move → ℕ
stores_of set moves = taken_of is_store set moves

-- In every complete pebbling of any graph, with any number of red pebbles, an instance that is loaded is stored.
abbrev pub LoadedInstancesAreStored : Type 0
LoadedInstancesAreStored = (graph : ComputationGraph) (s : ℕ) (moves : List Move) (vertex : ℕ) → IsCompletePebbling graph s moves
    → vertex < graph.instances → is_loaded vertex moves ≡ true → is_stored vertex moves ≡ true

-- an instance that is a last writer
abbrev pub IsLastWriter : ComputationGraph → ℕ → Type 0
IsLastWriter graph vertex = (vertex < graph.instances) × (marked graph.last_writers vertex ≡ true)

-- So is a last writer.
abbrev pub LastWritersAreStored : Type 0
LastWritersAreStored = (graph : ComputationGraph) (s : ℕ) (moves : List Move) (vertex : ℕ) → IsCompletePebbling graph s moves
    → IsLastWriter graph vertex → is_stored vertex moves ≡ true

-- Of different instances at least as many stores are made as there are loaded ones among them.
abbrev pub LoadedInstancesAreStores : Type 0
LoadedInstancesAreStores = (graph : ComputationGraph) (s : ℕ) (moves : List Move) (set : List ℕ) → IsCompletePebbling graph s moves
    → IsDistinct nat_eq set → AllByRecursion (λ vertex. vertex < graph.instances) set → length (loaded_among set moves) ≤ stores_of set moves

-- Of different last writers at least as many stores are made as they are.
abbrev pub LastWritersAreStores : Type 0
LastWritersAreStores = (graph : ComputationGraph) (s : ℕ) (moves : List Move) (set : List ℕ) → IsCompletePebbling graph s moves
    → IsDistinct nat_eq set → AllByRecursion (IsLastWriter graph) set → length set ≤ stores_of set moves
