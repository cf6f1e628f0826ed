-- Boards on which the moves of the red-blue pebble game are made, and what refuses a move. (Hong and Kung 1981.)
use Rattle.std.specs.Prelude.{◌≡◌, ℕ, nat_le, Bool, not, ◌&&◌, if◌then◌else◌, find, Option, Some, None, length}
use Rattle.iolb_model.specs.Graph.{ComputationGraph}
use Rattle.iolb_model.specs.declared.game.Move.{Move}
use Rattle.iolb_model.specs.declared.game.Move.TheVariants.{Load, Store, Compute, Drop, Erase}
use Rattle.iolb_model.specs.Game.{Board, marked, mark_count, vertices, predecessors_at}
use Rattle.pebble_game.specs.declared.illegal.Illegal.{Illegal}
use Rattle.pebble_game.specs.declared.illegal.Illegal.TheVariants.{NoBlue, NoRed, NeedsRed, Computed, Full, InputVertex}

-- how many red pebbles there are in all, and the marks on the vertices
pub record PlayedBoard : Type 0 where
  pub s : ℕ
  pub board : Board

-- a board has a place for each vertex of a graph
pub record IsBoardOf (graph : ComputationGraph) (board : Board) : Type 0 where
  pub red : length board.red ≡ vertices graph
  pub blue : length board.blue ≡ vertices graph
  pub computed : length board.computed ≡ vertices graph

-- the vertex of a move
abbrev pub moved : Move → ℕ
moved (Load v) = v
moved (Store v) = v
moved (Compute v) = v
moved (Drop v) = v
moved (Erase v) = v

-- whether all red pebbles are in use
abbrev pub is_full : ℕ → Board → Bool
is_full s board = nat_le s (mark_count board.red)

-- what refuses a load with so many red pebbles, tested in this order, if anything does
abbrev pub load_refusal : ℕ → Board → ℕ → Option Illegal
load_refusal s board v =
    if marked board.blue v then (if not (marked board.red v) && is_full s board then Some Full else None) else Some NoBlue

-- what refuses a move that needs the vertex to be red
abbrev pub red_refusal : Board → ℕ → Option Illegal
red_refusal board v = if marked board.red v then None else Some NoRed

-- what refuses a move that needs the vertex to be blue
abbrev pub blue_refusal : Board → ℕ → Option Illegal
blue_refusal board v = if marked board.blue v then None else Some NoBlue

-- what refuses to compute, where this is the first predecessor without a red pebble
abbrev pub refusal_after : ℕ → Board → Option ℕ → Option Illegal
refusal_after s board (Some u) = Some (NeedsRed u)
refusal_after s board None = if is_full s board then Some Full else None

-- what refuses to compute a vertex, tested in this order, if anything does
abbrev pub compute_refusal : ComputationGraph → ℕ → Board → ℕ → Option Illegal
compute_refusal graph s board v =
    if nat_le graph.instances v then Some InputVertex
    else (if marked board.computed v then Some Computed
    else refusal_after s board (find (λ u. not (marked board.red u)) (predecessors_at graph v)))

-- what refuses a move with so many red pebbles, if anything does
abbrev pub refusal : ComputationGraph → ℕ → Board → Move → Option Illegal
refusal graph s board (Load v) = load_refusal s board v
refusal graph s board (Store v) = red_refusal board v
refusal graph s board (Compute v) = compute_refusal graph s board v
refusal graph s board (Drop v) = red_refusal board v
refusal graph s board (Erase v) = blue_refusal board v
