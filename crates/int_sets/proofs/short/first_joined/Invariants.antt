use Rattle.std.proofs.Common.{ℕ, ◌<◌, length}
use Rattle.int_sets.specs.Halves.{NeverJoins}
use Rattle.int_sets.specs.Chains.{half_at}
use Rattle.int_sets.proofs.short.first_joined.Given as goal

abbrev pub invariant-loop-first : goal.invariant-loop-first
invariant-loop-first l = (i k : ℕ) → i < l.first-index → k < length l.halves → NeverJoins l.system l.goal (half_at l.halves i) (half_at l.halves k)
