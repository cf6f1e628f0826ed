-- The red-blue pebble game without recomputation (Hong and Kung 1981). A red pebble is a word in the fast memory,
-- a blue one a word in the slow memory, and S is how many words the fast memory holds.
use Rattle.std.specs.Prelude.{◌≡◌, ℕ, ◌+◌, ◌<◌, nat_eq, Bool, true, false, IsTrue, ◌⊎◌, ⊤, List, [], ◌∷◌, ◌++◌, replicate, slice_set, slice_index_or, count_by, fold}
use Rattle.std.specs.List.{AllByRecursion}
use Rattle.std.specs.Set.{is_member}
use Rattle.iolb_model.specs.Graph.{ComputationGraph}
use Rattle.iolb_model.specs.declared.game.Move.{Move}
use Rattle.iolb_model.specs.declared.game.Move.TheVariants.{Load, Store, Compute, Drop, Erase}

-- which vertices have a red pebble, which have a blue one, and which were computed: one mark for each vertex
pub record Board : Type 0 where
  pub red : List Bool
  pub blue : List Bool
  pub computed : List Bool

-- whether a vertex has the mark; past the list none has
abbrev pub marked : List Bool → ℕ → Bool
marked marks vertex = slice_index_or marks vertex false

-- how many vertices have the mark
abbrev pub mark_count : List Bool → ℕ
mark_count marks = count_by (λ mark. mark) marks

-- how many vertices a graph has
abbrev pub vertices : ComputationGraph → ℕ
vertices graph = graph.instances + graph.inputs

-- at first each input has a blue pebble, and nothing else has any
abbrev pub first_board : ComputationGraph → Board
first_board graph = record {
  red = replicate (vertices graph) false;
  blue = replicate graph.instances false ++ replicate graph.inputs true;
  computed = replicate (vertices graph) false;
}

-- the predecessors of an instance
abbrev pub predecessors_at : ComputationGraph → ℕ → List ℕ
predecessors_at graph vertex = slice_index_or graph.predecessors vertex []

-- Where each move is allowed, with so many red pebbles. Loading a word that is there already is allowed.
abbrev pub IsAllowed : ComputationGraph → ℕ → Board → Move → Type 0
IsAllowed graph s board (Load v) = IsTrue (marked board.blue v) × (IsTrue (marked board.red v) ⊎ (mark_count board.red < s))
IsAllowed graph s board (Store v) = IsTrue (marked board.red v)
IsAllowed graph s board (Compute v) = (v < graph.instances) × (marked board.computed v ≡ false)
    × AllByRecursion (λ u. IsTrue (marked board.red u)) (predecessors_at graph v) × (mark_count board.red < s)
IsAllowed graph s board (Drop v) = IsTrue (marked board.red v)
IsAllowed graph s board (Erase v) = IsTrue (marked board.blue v)

-- what each move does
abbrev pub board_after : Board → Move → Board
board_after board (Load v) = record board { red = slice_set board.red v true }
board_after board (Store v) = record board { blue = slice_set board.blue v true }
board_after board (Compute v) = record board { red = slice_set board.red v true; computed = slice_set board.computed v true }
board_after board (Drop v) = record board { red = slice_set board.red v false }
board_after board (Erase v) = record board { blue = slice_set board.blue v false }

-- each move is allowed on the board that the moves before it leave
abbrev pub AreAllowed : ComputationGraph → ℕ → Board → List Move → Type 0
AreAllowed graph s board [] = ⊤
AreAllowed graph s board (move ∷ moves) = IsAllowed graph s board move × AreAllowed graph s (board_after board move) moves

-- the board that the moves leave
abbrev pub final_board : Board → List Move → Board
final_board board moves = fold board_after board moves

-- A complete pebbling: each move is allowed, at the end each instance was computed, and each last writer is blue.
pub record IsCompletePebbling (graph : ComputationGraph) (s : ℕ) (moves : List Move) : Type 0 where
  pub allowed : AreAllowed graph s (first_board graph) moves
  pub computed : (v : ℕ) → v < graph.instances → IsTrue (marked (final_board (first_board graph) moves).computed v)
  pub stored : (v : ℕ) → v < graph.instances → IsTrue (marked graph.last_writers v) → IsTrue (marked (final_board (first_board graph) moves).blue v)

-- whether a move is a load
abbrev pub is_load : Move → Bool
is_load (Load v) = true
is_load (Store v) = false
is_load (Compute v) = false
is_load (Drop v) = false
is_load (Erase v) = false

-- how many words the moves load
abbrev pub loads : List Move → ℕ
loads moves = count_by is_load moves

-- whether a move is a store
abbrev pub is_store : Move → Bool
is_store (Load v) = false
is_store (Store v) = true
is_store (Compute v) = false
is_store (Drop v) = false
is_store (Erase v) = false

-- how many words the moves store
abbrev pub stores : List Move → ℕ
stores moves = count_by is_store moves

-- whether a vertex stands in a set, which is given by its members
abbrev pub stands_in : List ℕ → ℕ → Bool
stands_in set vertex = is_member nat_eq set vertex

-- whether a move loads a vertex of a set
abbrev pub loads_one_of : List ℕ → Move → Bool
loads_one_of set (Load v) = stands_in set v
loads_one_of set (Store v) = false
loads_one_of set (Compute v) = false
loads_one_of set (Drop v) = false
loads_one_of set (Erase v) = false

-- how many loads of vertices of a set the moves make
abbrev pub loads_of : List ℕ → List Move → ℕ
loads_of set moves = count_by (loads_one_of set) moves
