use Rattle.std.proofs.Common.{◌≡◌, take}
use Rattle.tile_sched.specs.Order.{said_by}
use Rattle.tile_sched.proofs.ordered.said_at.Given as goal

abbrev pub invariant-loop-key : goal.invariant-loop-key
invariant-loop-key l = l.said.items ≡ said_by (take l.key-index l.keys) l.point
