use Rattle.std.proofs.Common.{take}
use Rattle.comparisons.specs.Outcomes.{AreOutcomes}
use Rattle.comparisons.proofs.plays.play_all.Given as goal

abbrev pub invariant-loop-capacity : goal.invariant-loop-capacity
invariant-loop-capacity l = AreOutcomes l.graph l.order (take l.capacity-index l.capacities) l.all.items
