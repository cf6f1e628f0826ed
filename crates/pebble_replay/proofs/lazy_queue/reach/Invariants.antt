use Rattle.std.proofs.Common.{◌≡◌, ℕ, ◌+◌, ◌-◌, length}
use Rattle.pebble_replay.specs.Queue.{waits_with}
use Rattle.pebble_replay.proofs.lazy_queue.reach.Given as goal

abbrev pub invariant-loop-marks : goal.invariant-loop-marks
invariant-loop-marks l = (q : ℕ × ℕ) → waits_with l.marks.items q ≡ waits_with l.fn.marks.items q

abbrev pub decreases-loop-marks : goal.decreases-loop-marks
decreases-loop-marks l = (l.u + 1) - length l.marks.items
