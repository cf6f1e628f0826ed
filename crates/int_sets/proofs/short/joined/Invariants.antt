use Rattle.std.proofs.Common.{ℕ, ◌≤◌, ◌<◌, length}
use Rattle.int_sets.specs.Halves.{Joins}
use Rattle.int_sets.specs.Chains.{half_at, Leads}
use Rattle.int_sets.proofs.short.joined.Given as goal

abbrev pub invariant-loop-number : goal.invariant-loop-number
invariant-loop-number l = record {
  within : l.number ≤ length l.halves;
  left : (k : ℕ) → k < length l.halves → (rest : ℕ) → Joins l.system l.goal l.first (half_at l.halves k) rest
      → Leads l.chains.links.items (half_at l.halves k).constant l.number k;
}

abbrev pub decreases-loop-number : goal.decreases-loop-number
decreases-loop-number l = l.number
