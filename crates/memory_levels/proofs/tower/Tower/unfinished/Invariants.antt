-- Those before are finished.
use Rattle.std.proofs.Common.{ℕ, ◌<◌, length}
use Rattle.memory_levels.specs.Towers.{IsFinished}
use Rattle.memory_levels.proofs.tower.Tower.unfinished.Given as goal

abbrev pub invariant-loop-v : goal.invariant-loop-v
invariant-loop-v l = (u : ℕ) → u < l.v → IsFinished l.graph (length l.self.capacities) l.self.board u
