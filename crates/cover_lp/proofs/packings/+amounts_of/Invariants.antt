use Rattle.std.specs.Prelude.{◌<◌, ℕ, List, ◌∷◌}
use Rattle.cover_lp.specs.Search.{Fills}
use Rattle.cover_lp.proofs.packings.+amounts_of.Given as goal

abbrev pub decreases-amounts_of : goal.decreases-amounts_of
decreases-amounts_of l = l.count

abbrev pub invariant-loop-amount : goal.invariant-loop-amount
invariant-loop-amount l = (amount : ℕ) (amounts : List ℕ) → amount < l.amount → Fills l.sets l.rooms l.first l.count l.total (amount ∷ amounts) → ⊥
