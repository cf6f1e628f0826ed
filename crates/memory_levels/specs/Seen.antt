-- What a boundary between two levels of memory sees of a play. (Savage 1995, after Hong and Kung 1981.)
use Rattle.std.specs.Prelude.{◌≡◌, ℕ, List, length}
use Rattle.iolb_model.specs.Program.{AffineProgram}
use Rattle.iolb_model.specs.Bound.{Bound}
use Rattle.iolb_model.specs.Headline.{BoundHolds}
use Rattle.iolb_model.specs.Graph.{ComputationGraph}
use Rattle.iolb_model.specs.Game.{AreAllowed, IsCompletePebbling, first_board, loads, stores}
use Rattle.iolb_model.specs.Tower.{AreTowerAllowed, IsCompleteTower, HoldsAtLevels, IsFastLevel, TowerBoard, brings, capacity_up_to, first_tower_board, seen_moves, sends}
use Rattle.iolb_model.specs.declared.game.Move.{Move}
use Rattle.iolb_model.specs.declared.tower.TowerMove.{TowerMove}

-- what a boundary sees of moves from the first board
abbrev pub seen_from_first : ComputationGraph → List ℕ → List TowerMove → ℕ → List Move
seen_from_first graph capacities steps boundary = seen_moves boundary (first_tower_board (length capacities) graph) steps

-- Of allowed moves it sees allowed moves of the game of one fast memory, of all words that the levels up to it hold.
abbrev pub SeenAreAllowed : Type 0
SeenAreAllowed = (graph : ComputationGraph) (capacities : List ℕ) (steps : List TowerMove) (boundary : ℕ) → IsFastLevel capacities boundary
    → AreTowerAllowed graph capacities (first_tower_board (length capacities) graph) steps
    → AreAllowed graph (capacity_up_to capacities boundary) (first_board graph) (seen_from_first graph capacities steps boundary)

-- of a complete play it sees a complete pebbling
abbrev pub SeenIsComplete : Type 0
SeenIsComplete = (graph : ComputationGraph) (capacities : List ℕ) (steps : List TowerMove) (boundary : ℕ) → IsFastLevel capacities boundary
    → IsCompleteTower graph capacities steps
    → IsCompletePebbling graph (capacity_up_to capacities boundary) (seen_from_first graph capacities steps boundary)

-- whatever the moves and the board, the loads that it sees are the words brought over it, and the stores those sent
abbrev pub SeenLoads : Type 0
SeenLoads = (boundary : ℕ) (board : TowerBoard) (steps : List TowerMove) → loads (seen_moves boundary board steps) ≡ brings boundary steps

abbrev pub SeenStores : Type 0
SeenStores = (boundary : ℕ) (board : TowerBoard) (steps : List TowerMove) → stores (seen_moves boundary board steps) ≡ sends boundary steps

-- ---- bounds

-- a bound on the loads of the game of one fast memory holds at each level of a memory
abbrev pub BoundsHoldAtLevels : Type 0
BoundsHoldAtLevels = (program : AffineProgram) (bound : Bound) → BoundHolds program bound → HoldsAtLevels program bound
