use Rattle.std.specs.Prelude.{◌<◌, ℕ, List, sum}
use Rattle.cover_lp.specs.Cover.{IsCover}
use Rattle.cover_lp.proofs.least.first_pair.Given as goal

abbrev pub invariant-loop-total : goal.invariant-loop-total
invariant-loop-total l = (weights : List ℕ) → sum weights < l.total → IsCover l.sets l.d l.q weights → ⊥
