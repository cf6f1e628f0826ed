-- The pebble game over several levels of memory, without recomputation: fast levels that hold so many words each, the fastest
-- first, over one slow level that has room for all. (Savage 1995, after Hong and Kung 1981.)
use Rattle.std.specs.Prelude.{◌≡◌, ℕ, ◌+◌, ◌-◌, ◌<◌, ◌≤◌, nat_eq, nat_le, Bool, true, false, IsTrue, ◌⊎◌, ⊤, if◌then◌else◌, List, [], ◌∷◌, ◌++◌, take, drop, length, replicate, slice_set, slice_index_or, count_by, sum, ℤ, fold}
use Rattle.std.specs.List.{AllByRecursion, list_any}
use Rattle.iolb_model.specs.Program.{AffineProgram}
use Rattle.iolb_model.specs.Graph.{ComputationGraph, computation_graph}
use Rattle.iolb_model.specs.Game.{marked, mark_count, predecessors_at, first_board}
use Rattle.iolb_model.specs.Bound.{IsAdmitted, Bound, bound_value}
use Rattle.iolb_model.specs.declared.game.Move.{Move}
use Rattle.iolb_model.specs.declared.game.Move.TheVariants as moves
use Rattle.iolb_model.specs.declared.tower.TowerMove.{TowerMove}
use Rattle.iolb_model.specs.declared.tower.TowerMove.TheVariants.{Bring, Send, Compute, Drop}

-- which words stand at each level, the fastest first, and which vertices were computed
pub record TowerBoard : Type 0 where
  pub levels : List (List Bool)
  pub computed : List Bool

-- the words at a level, counted from 1
abbrev pub level_at : TowerBoard → ℕ → List Bool
level_at board level = slice_index_or board.levels (level - 1) []

-- a fast level: one that has a capacity
abbrev pub IsFastLevel : List ℕ → ℕ → Type 0
IsFastLevel capacities level = (1 ≤ level) × (level ≤ length capacities)

-- A level has room: fewer words stand there than it holds. The slow level always has.
abbrev pub HasRoom : List ℕ → TowerBoard → ℕ → Type 0
HasRoom capacities board level = level ≤ length capacities → mark_count (level_at board level) < slice_index_or capacities (level - 1) 0

-- at first the slow level holds the inputs, and nothing else stands anywhere
abbrev pub first_tower_board : ℕ → ComputationGraph → TowerBoard
first_tower_board fast graph =
    let board = first_board graph
    in record { levels = replicate fast board.red ++ board.blue ∷ []; computed = board.computed }

-- Where each move is allowed, with levels of these capacities. A word may be brought or sent to where it is already.
abbrev pub IsTowerAllowed : ComputationGraph → List ℕ → TowerBoard → TowerMove → Type 0
IsTowerAllowed graph capacities board (Bring i v) = IsFastLevel capacities i × IsTrue (marked (level_at board (i + 1)) v)
    × (IsTrue (marked (level_at board i) v) ⊎ HasRoom capacities board i)
IsTowerAllowed graph capacities board (Send i v) = IsFastLevel capacities i × IsTrue (marked (level_at board i) v)
    × (IsTrue (marked (level_at board (i + 1)) v) ⊎ HasRoom capacities board (i + 1))
IsTowerAllowed graph capacities board (Compute v) = (v < graph.instances) × (marked board.computed v ≡ false)
    × AllByRecursion (λ u. IsTrue (marked (level_at board 1) u)) (predecessors_at graph v) × HasRoom capacities board 1
IsTowerAllowed graph capacities board (Drop i v) = (1 ≤ i) × (i ≤ length capacities + 1) × IsTrue (marked (level_at board i) v)

-- the board with a word put at a level, or taken away there
abbrev pub with_word : TowerBoard → ℕ → ℕ → Bool → TowerBoard
with_word board level vertex there = record board { levels = slice_set board.levels (level - 1) (slice_set (level_at board level) vertex there) }

-- what each move does
abbrev pub tower_board_after : TowerBoard → TowerMove → TowerBoard
tower_board_after board (Bring i v) = with_word board i v true
tower_board_after board (Send i v) = with_word board (i + 1) v true
tower_board_after board (Compute v) = record (with_word board 1 v true) { computed = slice_set board.computed v true }
tower_board_after board (Drop i v) = with_word board i v false

-- each move is allowed on the board that the moves before it leave
abbrev pub AreTowerAllowed : ComputationGraph → List ℕ → TowerBoard → List TowerMove → Type 0
AreTowerAllowed graph capacities board [] = ⊤
AreTowerAllowed graph capacities board (move ∷ rest) =
    IsTowerAllowed graph capacities board move × AreTowerAllowed graph capacities (tower_board_after board move) rest

-- the board that the moves leave
abbrev pub final_tower_board : TowerBoard → List TowerMove → TowerBoard
final_tower_board board steps = fold tower_board_after board steps

-- the board that moves from the first board leave
abbrev pub tower_left : ComputationGraph → List ℕ → List TowerMove → TowerBoard
tower_left graph capacities steps = final_tower_board (first_tower_board (length capacities) graph) steps

-- A complete play: each move is allowed, at the end each instance was computed, and each last writer is at the slow level.
pub record IsCompleteTower (graph : ComputationGraph) (capacities : List ℕ) (steps : List TowerMove) : Type 0 where
  pub allowed : AreTowerAllowed graph capacities (first_tower_board (length capacities) graph) steps
  pub computed : (v : ℕ) → v < graph.instances → IsTrue (marked (tower_left graph capacities steps).computed v)
  pub stored : (v : ℕ) → v < graph.instances → IsTrue (marked graph.last_writers v)
      → IsTrue (marked (level_at (tower_left graph capacities steps) (length capacities + 1)) v)

-- ---- what a boundary sees: boundary i lies between level i and the next slower one

-- whether a move brings a word over a boundary, and whether it sends one
abbrev pub is_bring : ℕ → TowerMove → Bool
is_bring boundary (Bring i v) = nat_eq i boundary
is_bring boundary (Send i v) = false
is_bring boundary (Compute v) = false
is_bring boundary (Drop i v) = false

abbrev pub is_send : ℕ → TowerMove → Bool
is_send boundary (Bring i v) = false
is_send boundary (Send i v) = nat_eq i boundary
is_send boundary (Compute v) = false
is_send boundary (Drop i v) = false

-- how many words are brought over a boundary, and how many are sent
abbrev pub brings : ℕ → List TowerMove → ℕ
brings boundary steps = count_by (is_bring boundary) steps

abbrev pub sends : ℕ → List TowerMove → ℕ
sends boundary steps = count_by (is_send boundary) steps

-- whether a word stands at one of some levels
abbrev pub stands_at_one : List (List Bool) → ℕ → Bool
stands_at_one levels vertex = list_any (λ marks. marked marks vertex) levels

-- The moves of the game of one fast memory that a boundary sees in a move: a word is red where it stands at a level up to the
-- boundary, and blue where it stands at one behind it.
abbrev pub seen_move : ℕ → TowerBoard → TowerMove → List Move
seen_move boundary board (Bring i v) = if nat_eq i boundary then moves.Load v ∷ [] else []
seen_move boundary board (Send i v) = if nat_eq i boundary then moves.Store v ∷ [] else []
seen_move boundary board (Compute v) = moves.Compute v ∷ []
seen_move boundary board (Drop i v) =
    let left = (with_word board i v false).levels
    in if nat_le i boundary
    then (if stands_at_one (take boundary left) v then [] else moves.Drop v ∷ [])
    else (if stands_at_one (drop boundary left) v then [] else moves.Erase v ∷ [])

-- those that it sees in a list of moves
abbrev pub seen_moves : ℕ → TowerBoard → List TowerMove → List Move
seen_moves boundary board [] = []
seen_moves boundary board (move ∷ rest) = seen_move boundary board move ++ seen_moves boundary (tower_board_after board move) rest

-- how many words the levels up to a boundary hold together
abbrev pub capacity_up_to : List ℕ → ℕ → ℕ
capacity_up_to capacities boundary = sum (take boundary capacities)

-- What it means that a bound holds at each level: at all admitted parameter values, of any size, and for levels of any
-- capacities of at least 1, every complete play on the computation graph brings at least as many words over each boundary as
-- the bound's value says for one fast memory of the levels up to it.
abbrev pub HoldsAtLevels : AffineProgram → Bound → Type 0
HoldsAtLevels program bound = (values : List ℤ) (capacities : List ℕ) (steps : List TowerMove) → IsAdmitted program values
    → AllByRecursion (λ capacity. 1 ≤ capacity) capacities → IsCompleteTower (computation_graph program values) capacities steps
    → (boundary : ℕ) → IsFastLevel capacities boundary → bound_value bound values (capacity_up_to capacities boundary) ≤ brings boundary steps
