-- What is played is a complete pebbling.
use Rattle.std.specs.Prelude.{◌≡◌, ℕ, List, None}
use Rattle.iolb_model.specs.Graph.{ComputationGraph}
use Rattle.iolb_model.specs.Game.{IsCompletePebbling}
use Rattle.pebble_game.specs.Graphs.{IsWellFormedGraph}
use Rattle.pebble_replay.specs.Order.{HoldsEachOnce, replay_fault}
use Rattle.pebble_replay.specs.Played.{played}

-- Of every well-formed graph, an order that holds each instance once and can be played with s red pebbles is played by a
-- complete pebbling with s red pebbles.
abbrev pub PlayedIsComplete : Type 0
PlayedIsComplete = (graph : ComputationGraph) (order : List ℕ) (s : ℕ) → IsWellFormedGraph graph → HoldsEachOnce graph order
    → replay_fault graph s order ≡ None → IsCompletePebbling graph s (played graph s order)
