-- The turn of an instance: what is known of the red vertices and their next uses while its moves are made.
use Rattle.std.specs.Prelude.{◌≡◌, ℕ, suc, nat_eq, Bool, true, false, not, ◌&&◌, ◌||◌, if◌then◌else◌, List, [], ◌∷◌, ◌++◌, length, drop, slice_index_or, ◌<◌}
use Rattle.std.specs.List.{list_any, AllByRecursion, IsDistinct}
use Rattle.std.specs.BTreeMap.{is_at}
use Rattle.iolb_model.specs.declared.game.Move.{Move}
use Rattle.iolb_model.specs.declared.game.Move.TheVariants.{Load}
use Rattle.iolb_model.specs.Graph.{ComputationGraph}
use Rattle.iolb_model.specs.Game.{Board, marked, vertices, stands_in, final_board}
use Rattle.pebble_game.specs.Boards.{IsBoardOf}
use Rattle.pebble_replay.specs.Played.{reads, may_go, room_moves, instance_moves}
use Rattle.pebble_replay.specs.Queue.{pair_cmp}
use Rattle.pebble_replay.specs.Uses.{uses_of, left_from, AreUses}
use Rattle.pebble_replay.specs.declared.hand.Hand.{Hand}
use Rattle.pebble_replay.specs.declared.turn.Turn.{Turn}

-- the keys are those of the vertices that wait, each with what is left from its next use on
abbrev pub IsQueue : List (ℕ × ℕ) → (ℕ → Bool) → (ℕ → ℕ) → Type 0
IsQueue keys waits left = (q : ℕ × ℕ) → list_any (is_at (pair_cmp q)) keys ≡ (waits q.1 && nat_eq q.0 (left q.1))

-- the instance whose turn it is, and those that come later
abbrev pub current : Turn → ℕ
current turn = slice_index_or turn.order.now turn.place 0

abbrev pub later : Turn → List ℕ
later turn = drop (suc turn.place) turn.order.now

-- between the turns: the uses are those of the instances to come, and all red vertices wait
pub record IsBetween (graph : ComputationGraph) (rest : List ℕ) (hand : Hand) : Type 0 where
  pub fits : IsBoardOf graph hand.board.board
  pub uses : AreUses graph rest hand.uses
  pub queue : IsQueue hand.queue.keys (λ w. marked hand.board.board.red w) (left_from graph rest)

-- while the predecessors of an instance are taken from those that wait, and their uses are past: some are left
pub record IsHolding (graph : ComputationGraph) (v : ℕ) (later left : List ℕ) (hand : Hand) : Type 0 where
  pub fits : IsBoardOf graph hand.board.board
  pub lists : length hand.uses ≡ vertices graph
  pub uses : (w : ℕ) → w < vertices graph → slice_index_or hand.uses w [] ≡ (if stands_in left w then uses_of graph (v ∷ later) w else uses_of graph later w)
  pub queue : IsQueue hand.queue.keys (λ w. marked hand.board.board.red w && (stands_in left w || not (reads graph w v))) (left_from graph (v ∷ later))
  pub read : AllByRecursion (λ u. reads graph u v ≡ true) left
  pub there : AllByRecursion (λ u. u < vertices graph) left
  pub once : IsDistinct nat_eq left

-- while the moves of an instance are made: those wait that may go
pub record IsInTurn (graph : ComputationGraph) (v : ℕ) (later : List ℕ) (hand : Hand) : Type 0 where
  pub fits : IsBoardOf graph hand.board.board
  pub uses : AreUses graph later hand.uses
  pub queue : IsQueue hand.queue.keys (may_go graph v hand.board.board) (left_from graph later)

-- after the computation: of some vertices it is open whether they wait
pub record IsReleasing (graph : ComputationGraph) (later left : List ℕ) (hand : Hand) : Type 0 where
  pub fits : IsBoardOf graph hand.board.board
  pub uses : AreUses graph later hand.uses
  pub sound : (q : ℕ × ℕ) → list_any (is_at (pair_cmp q)) hand.queue.keys ≡ true → (marked hand.board.board.red q.1 && nat_eq q.0 (left_from graph later q.1)) ≡ true
  pub full : (q : ℕ × ℕ) → stands_in left q.1 ≡ false → (marked hand.board.board.red q.1 && nat_eq q.0 (left_from graph later q.1)) ≡ true
      → list_any (is_at (pair_cmp q)) hand.queue.keys ≡ true

-- a turn of the same instance, with the same board and moves
pub record IsSameTurn (old new : Turn) : Type 0 where
  pub graph : new.graph ≡ old.graph
  pub order : new.order ≡ old.order
  pub place : new.place ≡ old.place
  pub board : new.hand.board ≡ old.hand.board
  pub moves : new.moves.items ≡ old.moves.items

-- a turn has gained these moves, and its board is the one that they leave
pub record Gains (old new : Turn) (made : List Move) : Type 0 where
  pub graph : new.graph ≡ old.graph
  pub order : new.order ≡ old.order
  pub place : new.place ≡ old.place
  pub uses : new.hand.uses ≡ old.hand.uses
  pub board : new.hand.board ≡ record old.hand.board { board = final_board old.hand.board.board made }
  pub moves : new.moves.items ≡ old.moves.items ++ made

-- the moves that load a vertex, if it isn't red
abbrev pub load_one : ComputationGraph → ℕ → List ℕ → ℕ → Board → ℕ → List Move
load_one graph s later v board u = if marked board.red u then [] else room_moves graph s later v board ++ Load u ∷ []

-- the moves of a turn
abbrev pub moves_of : Turn → List Move
moves_of turn = instance_moves turn.graph.now turn.hand.board.s (later turn) (current turn) turn.hand.board.board
