-- A player part of the way through an order.
use Rattle.std.specs.Prelude.{◌≡◌, ℕ, suc, ◌≤◌, List, length, drop, slice_index_or, Some, None}
use Rattle.iolb_model.specs.declared.game.Move.{Move}
use Rattle.iolb_model.specs.Graph.{ComputationGraph}
use Rattle.iolb_model.specs.Game.{first_board, final_board, loads, stores}
use Rattle.pebble_replay.specs.Order.{HoldsEachOnce, replay_fault}
use Rattle.pebble_replay.specs.Played.{instance_moves, moves_of_first, computes}
use Rattle.pebble_replay.specs.Turns.{IsBetween}
use Rattle.pebble_replay.specs.declared.hand.Hand.{Hand}
use Rattle.pebble_replay.specs.declared.player.Player.{Player}

-- how many red pebbles a player has, and the place of the order at which it is
abbrev pub pebbles_of : Player → ℕ
pebbles_of player = player.s

abbrev pub place_of : Player → ℕ
place_of player = player.place

-- the moves of the instances before a place of an order
abbrev pub moves_before : ComputationGraph → ℕ → List ℕ → ℕ → List Move
moves_before graph s order place = moves_of_first graph s place order (first_board graph)

-- the moves of the instance at a place of an order
abbrev pub moves_at : ComputationGraph → ℕ → List ℕ → ℕ → List Move
moves_at graph s order place =
    instance_moves graph s (drop (suc place) order) (slice_index_or order place 0) (final_board (first_board graph) (moves_before graph s order place))

-- how many of some moves load, store and compute
abbrev pub totals_of : List Move → ℕ × ℕ × ℕ
totals_of moves = (loads moves, stores moves, computes moves)

-- what a player holds is as the moves before its place leave it
pub record Holds (graph : ComputationGraph) (s : ℕ) (order : List ℕ) (place : ℕ) (hand : Hand) : Type 0 where
  pub between : IsBetween graph (drop place order) hand
  pub board : hand.board ≡ record { s = s; board = final_board (first_board graph) (moves_before graph s order place) }

-- whether a player goes on: a step that wanted memory leaves it without what it held
pub record GoesOn (graph : ComputationGraph) (order : List ℕ) (player : Player) : Type 0 where
  pub hand : Hand
  pub here : player.hand ≡ Some hand
  pub holds : Holds graph player.s order player.place hand

-- A player stands for a graph and an order that can be played: its board, its uses and its counts are those after the moves
-- of the instances before its place.
pub record StandsFor (graph : ComputationGraph) (order : List ℕ) (player : Player) : Type 0 where
  pub each : HoldsEachOnce graph order
  pub playable : replay_fault graph player.s order ≡ None
  pub place : player.place ≤ length order
  pub goes_on : GoesOn graph order player
  pub loaded : player.counts.loads ≡ loads (moves_before graph player.s order player.place)
  pub stored : player.counts.stores ≡ stores (moves_before graph player.s order player.place)
  pub computed : player.counts.computes ≡ computes (moves_before graph player.s order player.place)

-- an earlier step wanted memory
abbrev pub IsStopped : Player → Type 0
IsStopped player = player.hand ≡ None
