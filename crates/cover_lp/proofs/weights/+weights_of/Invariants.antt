use Rattle.std.specs.Prelude.{◌<◌, ℕ, List, ◌∷◌, length}
use Rattle.cover_lp.specs.Search.{Meets}
use Rattle.cover_lp.proofs.weights.+weights_of.Given as goal

abbrev pub decreases-weights_of : goal.decreases-weights_of
decreases-weights_of l = length l.sets.now

abbrev pub invariant-loop-weight : goal.invariant-loop-weight
invariant-loop-weight l = (weight : ℕ) (weights : List ℕ) → weight < l.weight → Meets l.sets l.needs l.total (weight ∷ weights) → ⊥
