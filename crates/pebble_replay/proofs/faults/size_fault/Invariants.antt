use Rattle.std.proofs.Common.{◌≡◌, drop}
use Rattle.pebble_replay.specs.Order.{size_fault}
use Rattle.pebble_replay.proofs.faults.size_fault.Given as goal

abbrev pub invariant-loop-v : goal.invariant-loop-v
invariant-loop-v l = size_fault l.graph l.s l.order ≡ size_fault l.graph l.s (drop l.v-index l.order)
