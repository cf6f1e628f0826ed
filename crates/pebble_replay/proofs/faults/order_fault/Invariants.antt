use Rattle.std.proofs.Common.{drop}
use Rattle.pebble_replay.proofs.Ordering.{IsOrdering}
use Rattle.pebble_replay.proofs.faults.order_fault.Given as goal

abbrev pub invariant-loop-v : goal.invariant-loop-v
invariant-loop-v l = IsOrdering l.graph l.order l.done.items (drop l.v-index l.order)
