-- Several processors seen as one.
use Rattle.std.specs.Prelude.{◌≡◌, ℕ, zero, suc, ◌+◌, ◌*◌, List}
use Rattle.iolb_model.specs.declared.game.Move.{Move}
use Rattle.iolb_model.specs.Graph.{ComputationGraph}
use Rattle.iolb_model.specs.Game.{IsCompletePebbling, loads, loads_of}
use Rattle.iolb_model.specs.Parallel.{IsCompleteParallelPebbling, ParallelMove, moves_by}

-- what there is of something for each of so many processors, added up
abbrev pub added_up : ℕ → (ℕ → ℕ) → ℕ
added_up zero each = 0
added_up (suc processors) each = added_up processors each + each processors

-- A complete pebbling by one player with the red pebbles of all processors, who makes as many loads as they make together: of
-- each set of vertices, and in all.
pub record IsPlayedByOne (graph : ComputationGraph) (processors s : ℕ) (steps : List ParallelMove) : Type 0 where
  pub moves : List Move
  pub complete : IsCompletePebbling graph (processors * s) moves
  pub each_set : (set : List ℕ) → loads_of set moves ≡ added_up processors (λ processor. loads_of set (moves_by processor steps))
  pub all : loads moves ≡ added_up processors (λ processor. loads (moves_by processor steps))

-- For each complete parallel pebbling there is one.
abbrev pub ParallelPebblingsMerge : Type 0
ParallelPebblingsMerge = (graph : ComputationGraph) (processors s : ℕ) (steps : List ParallelMove) → IsCompleteParallelPebbling graph processors s steps
    → IsPlayedByOne graph processors s steps
