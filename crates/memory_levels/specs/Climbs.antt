-- What a play of moves over levels of memory answers.
use Rattle.std.specs.Prelude.{◌≡◌, ⊤, ℕ, ◌+◌, List, ◌∷◌, ◌++◌, length, map, Some, Result, Ok, Err, Vec}
use Rattle.std.specs.Global.{Global}
use Rattle.std.specs.List.{range_with_len}
use Rattle.iolb_model.specs.Graph.{ComputationGraph}
use Rattle.iolb_model.specs.Tower.{AreTowerAllowed, IsCompleteTower, brings, first_tower_board, sends, tower_left}
use Rattle.iolb_model.specs.declared.tower.TowerMove.{TowerMove}
use Rattle.memory_levels.specs.declared.climbs.ClimbFault.{ClimbFault}
use Rattle.memory_levels.specs.declared.climbs.ClimbFault.TheVariants.{Illegal, Memory, NotComplete}
use Rattle.memory_levels.specs.declared.climbs.Crossed.{Crossed}
use Rattle.memory_levels.specs.declared.illegal.TowerIllegal.{TowerIllegal}
use Rattle.memory_levels.specs.Towers.{IsFirstUnfinished, tower_refusal}

-- the boundaries below so many fast levels, the fastest first
abbrev pub boundaries : ℕ → List ℕ
boundaries fast = range_with_len 1 fast

-- how many words moves bring over a boundary, and how many they send
abbrev pub crossing : List TowerMove → ℕ → Crossed
crossing steps boundary = record { brings = brings boundary steps; sends = sends boundary steps }

-- over each boundary
abbrev pub crossings : ℕ → List TowerMove → List Crossed
crossings fast steps = map (crossing steps) (boundaries fast)

-- these are how many words some moves carry over each boundary
abbrev pub AreCrossings : List Crossed → List TowerMove → Type 0
AreCrossings crossed steps = crossed ≡ crossings (length crossed) steps

-- each move is allowed, from the first board on
abbrev pub AreLegal : ComputationGraph → List ℕ → List TowerMove → Type 0
AreLegal graph capacities steps = AreTowerAllowed graph capacities (first_tower_board (length capacities) graph) steps

-- The move of this number, counted from 1, is the first that isn't allowed: those before it are, and this refuses it on the
-- board that they leave.
pub record IsFirstIllegal (graph : ComputationGraph) (capacities : List ℕ) (steps : List TowerMove) (number : ℕ) (illegal : TowerIllegal) : Type 0 where
  pub before : List TowerMove
  pub move : TowerMove
  pub later : List TowerMove
  pub parts : steps ≡ before ++ move ∷ later
  pub number_is : number ≡ length before + 1
  pub legal : AreLegal graph capacities before
  pub refused : tower_refusal graph capacities (tower_left graph capacities before) move ≡ Some illegal

-- What a play answers: of a complete play how many words cross each boundary; else the first move that isn't allowed; else,
-- where all are, the least instance that isn't finished on the board that they leave. Want of memory says nothing.
abbrev pub Climbs : ComputationGraph → List ℕ → List TowerMove → Result (Vec Crossed Global) ClimbFault → Type 0
Climbs graph capacities steps (Ok crossed) = IsCompleteTower graph capacities steps × (crossed.items ≡ crossings (length capacities) steps)
Climbs graph capacities steps (Err (Illegal number illegal)) = IsFirstIllegal graph capacities steps number illegal
Climbs graph capacities steps (Err (NotComplete v)) =
    AreLegal graph capacities steps × IsFirstUnfinished graph (length capacities) (tower_left graph capacities steps) v
Climbs graph capacities steps (Err Memory) = ⊤

-- ---- a play has one answer

abbrev pub FirstIllegalIsOne : Type 0
FirstIllegalIsOne = (graph : ComputationGraph) (capacities : List ℕ) (steps : List TowerMove) (m n : ℕ) (one two : TowerIllegal)
    → IsFirstIllegal graph capacities steps m one → IsFirstIllegal graph capacities steps n two → (m ≡ n) × (one ≡ two)

abbrev pub LegalOrIllegal : Type 0
LegalOrIllegal = (graph : ComputationGraph) (capacities : List ℕ) (steps : List TowerMove) (number : ℕ) (illegal : TowerIllegal)
    → AreLegal graph capacities steps → IsFirstIllegal graph capacities steps number illegal → ⊥

abbrev pub FirstUnfinishedIsOne : Type 0
FirstUnfinishedIsOne = (graph : ComputationGraph) (capacities : List ℕ) (steps : List TowerMove) (v w : ℕ)
    → IsFirstUnfinished graph (length capacities) (tower_left graph capacities steps) v
    → IsFirstUnfinished graph (length capacities) (tower_left graph capacities steps) w → v ≡ w

abbrev pub CompleteOrUnfinished : Type 0
CompleteOrUnfinished = (graph : ComputationGraph) (capacities : List ℕ) (steps : List TowerMove) (v : ℕ) → IsCompleteTower graph capacities steps
    → IsFirstUnfinished graph (length capacities) (tower_left graph capacities steps) v → ⊥

-- ---- parts of it

-- what is refused while moves are made
abbrev pub IsPlayFault : ComputationGraph → List ℕ → List TowerMove → ClimbFault → Type 0
IsPlayFault graph capacities steps (Illegal number illegal) = IsFirstIllegal graph capacities steps number illegal
IsPlayFault graph capacities steps (NotComplete v) = ⊥
IsPlayFault graph capacities steps Memory = ⊤
