use Rattle.std.specs.Prelude.{◌<◌, ℕ}
use Rattle.cover_lp.specs.Cover.{IsBare}
use Rattle.cover_lp.proofs.least.first_bare.Given as goal

abbrev pub invariant-loop-coordinate : goal.invariant-loop-coordinate
invariant-loop-coordinate l = (coordinate : ℕ) → coordinate < l.coordinate → IsBare l.sets coordinate → ⊥
