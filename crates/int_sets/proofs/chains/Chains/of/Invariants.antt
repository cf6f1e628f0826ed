use Rattle.int_sets.specs.Chains.{AreChainsOf}
use Rattle.int_sets.proofs.chains.Chains.of.Given as goal

abbrev pub invariant-loop-i : goal.invariant-loop-i
invariant-loop-i l = AreChainsOf l.i l.halves l.starts.items l.links.items
