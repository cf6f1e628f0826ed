-- Boards on which words move over levels of memory, and what refuses a move. (Savage 1995, after Hong and Kung 1981.)
use Rattle.std.specs.Prelude.{◌≡◌, ℕ, ◌+◌, ◌-◌, ◌<◌, ◌≤◌, ◌^◌, nat_le, Bool, true, not, ◌&&◌, if◌then◌else◌, IsTrue, find, Option, Some, None, List, [], ◌∷◌, length, sum, slice_index_or}
use Rattle.std.specs.List.{AllByRecursion}
use Rattle.iolb_model.specs.Graph.{ComputationGraph}
use Rattle.iolb_model.specs.Game.{marked, mark_count, vertices, predecessors_at}
use Rattle.iolb_model.specs.Tower.{TowerBoard, level_at, stands_at_one}
use Rattle.iolb_model.specs.declared.game.Move.{Move}
use Rattle.iolb_model.specs.declared.game.Move.TheVariants as moves
use Rattle.iolb_model.specs.declared.limits.TheConstants.{LEVELS}
use Rattle.iolb_model.specs.declared.tower.TowerMove.{TowerMove}
use Rattle.iolb_model.specs.declared.tower.TowerMove.TheVariants.{Bring, Send, Compute, Drop}
use Rattle.memory_levels.specs.declared.illegal.TowerIllegal.{TowerIllegal}
use Rattle.memory_levels.specs.declared.illegal.TowerIllegal.TheVariants.{NotAbove, NotHere, NeedsFirst, Computed, Full, InputVertex, NoLevel, NoVertex}

-- capacities of one to four fast levels, each at least 1, and together below 2^63
pub record AreCapacities (capacities : List ℕ) : Type 0 where
  pub some : 1 ≤ length capacities
  pub few : length capacities ≤ LEVELS
  pub each : AllByRecursion (λ capacity. 1 ≤ capacity) capacities
  pub together : sum capacities < 2 ^ 63

-- how many words the fast levels hold, and what stands at the levels
pub record PlayedTower : Type 0 where
  pub capacities : List ℕ
  pub board : TowerBoard

-- at each level there is a place for each vertex of a graph, and a mark that says whether it was computed
pub record IsTowerOf (graph : ComputationGraph) (board : TowerBoard) : Type 0 where
  pub levels : (level : ℕ) → 1 ≤ level → level ≤ length board.levels → length (level_at board level) ≡ vertices graph
  pub computed : length board.computed ≡ vertices graph

-- the number of each refusal
abbrev pub illegal_number : TowerIllegal → ℕ
illegal_number NotAbove = 1
illegal_number NotHere = 2
illegal_number (NeedsFirst u) = 3
illegal_number Computed = 4
illegal_number Full = 5
illegal_number InputVertex = 6
illegal_number NoLevel = 7
illegal_number NoVertex = 8

-- the vertex of a move
abbrev pub vertex_of : TowerMove → ℕ
vertex_of (Bring i v) = v
vertex_of (Send i v) = v
vertex_of (Compute v) = v
vertex_of (Drop i v) = v

-- whether a move's level is there: a fast one for a word that is brought or sent, any for one that is given up
abbrev pub is_fast : List ℕ → ℕ → Bool
is_fast capacities level = nat_le 1 level && nat_le level (length capacities)

abbrev pub has_level : List ℕ → TowerMove → Bool
has_level capacities (Bring i v) = is_fast capacities i
has_level capacities (Send i v) = is_fast capacities i
has_level capacities (Compute v) = true
has_level capacities (Drop i v) = nat_le 1 i && nat_le i (length capacities + 1)

-- whether a level is a fast one without room
abbrev pub is_full : List ℕ → TowerBoard → ℕ → Bool
is_full capacities board level =
    nat_le level (length capacities) && nat_le (slice_index_or capacities (level - 1) 0) (mark_count (level_at board level))

-- what refuses that a word comes to a level, where it isn't already
abbrev pub room_refusal : List ℕ → TowerBoard → ℕ → ℕ → Option TowerIllegal
room_refusal capacities board level v =
    if not (marked (level_at board level) v) && is_full capacities board level then Some Full else None

-- what refuses to bring and to send a word, tested in this order, if anything does
abbrev pub bring_refusal : List ℕ → TowerBoard → ℕ → ℕ → Option TowerIllegal
bring_refusal capacities board i v = if marked (level_at board (i + 1)) v then room_refusal capacities board i v else Some NotAbove

abbrev pub send_refusal : List ℕ → TowerBoard → ℕ → ℕ → Option TowerIllegal
send_refusal capacities board i v = if marked (level_at board i) v then room_refusal capacities board (i + 1) v else Some NotHere

-- what refuses to compute, where this is the first predecessor that isn't at level 1
abbrev pub refusal_after : List ℕ → TowerBoard → Option ℕ → Option TowerIllegal
refusal_after capacities board (Some u) = Some (NeedsFirst u)
refusal_after capacities board None = if is_full capacities board 1 then Some Full else None

-- what refuses to compute a vertex, tested in this order, if anything does
abbrev pub compute_refusal : ComputationGraph → List ℕ → TowerBoard → ℕ → Option TowerIllegal
compute_refusal graph capacities board v =
    if nat_le graph.instances v then Some InputVertex
    else (if marked board.computed v then Some Computed
    else refusal_after capacities board (find (λ u. not (marked (level_at board 1) u)) (predecessors_at graph v)))

-- what refuses a move whose vertex and level are there
abbrev pub own_refusal : ComputationGraph → List ℕ → TowerBoard → TowerMove → Option TowerIllegal
own_refusal graph capacities board (Bring i v) = bring_refusal capacities board i v
own_refusal graph capacities board (Send i v) = send_refusal capacities board i v
own_refusal graph capacities board (Compute v) = compute_refusal graph capacities board v
own_refusal graph capacities board (Drop i v) = if marked (level_at board i) v then None else Some NotHere

-- what refuses a move, if anything does: first that the vertex isn't there, then that the level isn't
abbrev pub tower_refusal : ComputationGraph → List ℕ → TowerBoard → TowerMove → Option TowerIllegal
tower_refusal graph capacities board move =
    if nat_le (vertices graph) (vertex_of move) then Some NoVertex
    else (if has_level capacities move then own_refusal graph capacities board move else Some NoLevel)

-- an instance is finished where it was computed, and stands at the slow level if it is a last writer
abbrev pub IsFinished : ComputationGraph → ℕ → TowerBoard → ℕ → Type 0
IsFinished graph fast board v =
    IsTrue (marked board.computed v) × (IsTrue (marked graph.last_writers v) → IsTrue (marked (level_at board (fast + 1)) v))

-- all are
abbrev pub AreFinished : ComputationGraph → ℕ → TowerBoard → Type 0
AreFinished graph fast board = (v : ℕ) → v < graph.instances → IsFinished graph fast board v

-- this is the least that isn't
pub record IsFirstUnfinished (graph : ComputationGraph) (fast : ℕ) (board : TowerBoard) (v : ℕ) : Type 0 where
  pub there : v < graph.instances
  pub unfinished : ¬ IsFinished graph fast board v
  pub before : (u : ℕ) → u < v → IsFinished graph fast board u

-- what a boundary sees of a drop on its side, with what stands at the levels up to it and behind it once it was made
abbrev pub seen_drop : Bool → List (List Bool) → List (List Bool) → ℕ → List Move
seen_drop up fast slow v =
    if up then (if stands_at_one fast v then [] else moves.Drop v ∷ []) else (if stands_at_one slow v then [] else moves.Erase v ∷ [])
