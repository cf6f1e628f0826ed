-- The moves that play an order of computation with s red pebbles: to make room, the word goes whose next use is furthest.
-- (Belady 1966; ties go to the least vertex.)
use Rattle.std.specs.Prelude.{ℕ, zero, suc, nat_le, Bool, true, false, not, ◌&&◌, ◌||◌, if◌then◌else◌, List, [], ◌∷◌, ◌++◌, length, find, Option, Some, None, count_by}
use Rattle.std.specs.List.{list_any, list_all, position_or_len, range_with_len}
use Rattle.iolb_model.specs.declared.game.Move.{Move}
use Rattle.iolb_model.specs.declared.game.Move.TheVariants.{Load, Store, Compute, Drop, Erase}
use Rattle.iolb_model.specs.Graph.{ComputationGraph}
use Rattle.iolb_model.specs.Game.{Board, marked, vertices, first_board, final_board, predecessors_at, stands_in}
use Rattle.pebble_game.specs.Boards.{is_full}

-- whether an instance has the vertex as a predecessor
abbrev pub reads : ComputationGraph → ℕ → ℕ → Bool
reads graph u w = stands_in (predecessors_at graph w) u

-- whether a vertex has a use among the instances that come later
abbrev pub is_used : ComputationGraph → List ℕ → ℕ → Bool
is_used graph later u = list_any (reads graph u) later

-- a vertex's next use, as a place among the instances that come later; no next use is further than any
abbrev pub next_use : ComputationGraph → List ℕ → ℕ → ℕ
next_use graph later u = position_or_len (reads graph u) later

-- whether a vertex may go while an instance is computed: it is red, and no predecessor of the instance
abbrev pub may_go : ComputationGraph → ℕ → Board → ℕ → Bool
may_go graph v board u = marked board.red u && not (reads graph u v)

-- whether a vertex may go and its next use is as far as that of any that may go
abbrev pub is_furthest : ComputationGraph → List ℕ → ℕ → Board → ℕ → Bool
is_furthest graph later v board u =
    may_go graph v board u
    && list_all (λ w. not (may_go graph v board w) || nat_le (next_use graph later w) (next_use graph later u)) (range_with_len 0 (vertices graph))

-- the vertex that goes: the least of those with the furthest next use
abbrev pub victim : ComputationGraph → List ℕ → ℕ → Board → Option ℕ
victim graph later v board = find (is_furthest graph later v board) (range_with_len 0 (vertices graph))

-- the moves by which a vertex goes: it is stored first if it has a next use and no blue pebble
abbrev pub moves_out : ComputationGraph → List ℕ → Board → Option ℕ → List Move
moves_out graph later board None = []
moves_out graph later board (Some u) =
    if is_used graph later u && not (marked board.blue u) then Store u ∷ Drop u ∷ [] else Drop u ∷ []

-- the moves that make room, where all red pebbles are in use
abbrev pub room_moves : ComputationGraph → ℕ → List ℕ → ℕ → Board → List Move
room_moves graph s later v board = if is_full s board then moves_out graph later board (victim graph later v board) else []

-- the moves that load those of some predecessors that aren't red, in order
abbrev pub load_moves : ComputationGraph → ℕ → List ℕ → ℕ → Board → List ℕ → List Move
load_moves graph s later v board [] = []
load_moves graph s later v board (u ∷ us) =
    if marked board.red u then load_moves graph s later v board us
    else (let moves = room_moves graph s later v board ++ Load u ∷ [] in moves ++ load_moves graph s later v (final_board board moves) us)

-- the move that stores a last writer
abbrev pub store_moves : ComputationGraph → ℕ → List Move
store_moves graph v = if marked graph.last_writers v then Store v ∷ [] else []

-- the moves that compute an instance and store it if it is a last writer
abbrev pub compute_moves : ComputationGraph → ℕ → List ℕ → ℕ → Board → List Move
compute_moves graph s later v board = room_moves graph s later v board ++ Compute v ∷ store_moves graph v

-- the moves of an instance: its predecessors are loaded, then it is computed
abbrev pub instance_moves : ComputationGraph → ℕ → List ℕ → ℕ → Board → List Move
instance_moves graph s later v board =
    let loading = load_moves graph s later v board (predecessors_at graph v)
    in loading ++ compute_moves graph s later v (final_board board loading)

-- the moves of the first instances of an order, so many, from a board on
abbrev pub moves_of_first : ComputationGraph → ℕ → ℕ → List ℕ → Board → List Move
moves_of_first graph s zero order board = []
moves_of_first graph s (suc n) [] board = []
moves_of_first graph s (suc n) (v ∷ later) board =
    let moves = instance_moves graph s later v board
    in moves ++ moves_of_first graph s n later (final_board board moves)

-- the moves that play an order
abbrev pub played : ComputationGraph → ℕ → List ℕ → List Move
played graph s order = moves_of_first graph s (length order) order (first_board graph)

-- whether a move computes
abbrev pub is_compute : Move → Bool
is_compute (Compute v) = true
is_compute (Load v) = false
is_compute (Store v) = false
is_compute (Drop v) = false
is_compute (Erase v) = false

-- how many instances the moves compute
abbrev pub computes : List Move → ℕ
computes moves = count_by is_compute moves
