use Rattle.std.specs.Prelude.{◌<◌, ◌≤◌, ℕ}
use Rattle.cover_lp.specs.Cover.{weight_at}
use Rattle.cover_lp.proofs.ratio.is_cover.Given as goal

abbrev pub invariant-loop-coordinate : goal.invariant-loop-coordinate
invariant-loop-coordinate l = (coordinate : ℕ) → coordinate < l.coordinate → l.q ≤ weight_at l.sets l.weights coordinate
