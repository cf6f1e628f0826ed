-- What each of several processors does.
use Rattle.std.specs.Prelude.{◌≡◌, ℕ, ◌<◌, ◌≤◌, true, false, nat_eq, List, length, replicate}
use Rattle.std.specs.List.{AllByRecursion, IsDistinct}
use Rattle.iolb_model.specs.Graph.{ComputationGraph}
use Rattle.iolb_model.specs.Game.{stands_in, vertices}
use Rattle.iolb_model.specs.Parallel.{IsCompleteParallelPebbling, ParallelMove, ceiling, moves_by}
use Rattle.stretch_laws.specs.Runs.{IsRedRun, computed_among, computed_vertices}

-- In a complete parallel pebbling the moves of each processor are a red run from nothing red, and compute no vertex again.
abbrev pub ProcessorsMakeRuns : Type 0
ProcessorsMakeRuns = (graph : ComputationGraph) (processors s processor : ℕ) (steps : List ParallelMove) → IsCompleteParallelPebbling graph processors s steps
    → processor < processors → IsRedRun graph s (replicate (vertices graph) false) (moves_by processor steps)
    × IsDistinct nat_eq (computed_vertices (moves_by processor steps))

-- Each instance is computed by some processor.
abbrev pub InstancesAreComputed : Type 0
InstancesAreComputed = (graph : ComputationGraph) (processors s v : ℕ) (steps : List ParallelMove) → IsCompleteParallelPebbling graph processors s steps
    → v < graph.instances → (processor : ℕ) × (processor < processors) × (stands_in (computed_vertices (moves_by processor steps)) v ≡ true)

-- So of any list of instances some processor computes its share, rounded up.
abbrev pub SomeComputesItsShare : Type 0
SomeComputesItsShare = (graph : ComputationGraph) (processors s : ℕ) (steps : List ParallelMove) (points : List ℕ) → IsCompleteParallelPebbling graph processors s steps
    → 1 ≤ processors → AllByRecursion (λ v. v < graph.instances) points
    → (processor : ℕ) × (processor < processors) × (ceiling (length points) processors ≤ length (computed_among points (moves_by processor steps)))
