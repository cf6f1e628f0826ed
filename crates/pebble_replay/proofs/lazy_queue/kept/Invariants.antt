use Rattle.std.proofs.Common.{take}
use Rattle.std.specs.BinaryHeap.{heap_items, IsHeap}
use Rattle.pebble_replay.specs.Queue.{earlier}
use Rattle.pebble_replay.proofs.Waiting.{AreKept}
use Rattle.pebble_replay.proofs.lazy_queue.kept.Given as goal

abbrev pub invariant-loop-key : goal.invariant-loop-key
invariant-loop-key l = record {
  ordered : IsHeap earlier (heap_items l.kept);
  kept : AreKept l.marks (take l.key-index l.key-items) (heap_items l.kept);
}
