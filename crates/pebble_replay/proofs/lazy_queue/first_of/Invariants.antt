use Rattle.std.specs.BinaryHeap.{heap_items, heap_len}
use Rattle.pebble_replay.specs.Queue.{IsCovered}
use Rattle.pebble_replay.proofs.lazy_queue.first_of.Given as goal

abbrev pub invariant-loop-left : goal.invariant-loop-left
invariant-loop-left l = IsCovered l.marks (heap_items l.heap)

abbrev pub decreases-loop-left : goal.decreases-loop-left
decreases-loop-left l = heap_len l.heap
