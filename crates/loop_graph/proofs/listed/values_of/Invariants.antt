use Rattle.std.proofs.Common.{◌≡◌, take}
use Rattle.loop_graph.proofs.listed.values_of.Given as goal

abbrev pub invariant-loop-size : goal.invariant-loop-size
invariant-loop-size l = l.values.items ≡ take l.size-index l.sizes
