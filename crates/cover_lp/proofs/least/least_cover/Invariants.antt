use Rattle.std.specs.Prelude.{◌<◌, ◌≤◌, ℕ, List, sum}
use Rattle.cover_lp.specs.Cover.{IsPair}
use Rattle.cover_lp.proofs.least.least_cover.Given as goal

abbrev pub invariant-loop-q : goal.invariant-loop-q
invariant-loop-q l = (lesser : ℕ) (weights packing : List ℕ) → 1 ≤ lesser → lesser < l.q → sum weights ≤ 24 → IsPair l.sets l.d lesser weights packing → ⊥
