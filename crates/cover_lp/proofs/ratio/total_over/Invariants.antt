use Rattle.std.specs.Prelude.{◌≡◌, ◌*◌, ◌<◌, ℕ}
use Rattle.cover_lp.proofs.ratio.total_over.Given as goal

abbrev pub invariant-loop-total : goal.invariant-loop-total
invariant-loop-total l = (total : ℕ) → total < l.total → total * l.divisor ≡ l.product → ⊥
