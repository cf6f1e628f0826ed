use Rattle.std.proofs.Common.{take}
use Rattle.tile_sched.specs.Ranks.{SaysNothing}
use Rattle.tile_sched.specs.Schedules.{rows_of}
use Rattle.tile_sched.proofs.ordered.says_nothing.Given as goal

abbrev pub invariant-loop-keys : goal.invariant-loop-keys
invariant-loop-keys l = SaysNothing (rows_of (take l.keys-index l.keys-items))
