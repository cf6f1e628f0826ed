use Rattle.std.proofs.Common.{drop}
use Rattle.pebble_replay.proofs.Holding.{IsReleased}
use Rattle.pebble_replay.proofs.turn.Turn.release.Given as goal

abbrev pub invariant-loop-u : goal.invariant-loop-u
invariant-loop-u l = IsReleased l.fn.self l.self (drop l.u-index l.u-items)
