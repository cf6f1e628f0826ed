use Rattle.std.proofs.Common.{drop}
use Rattle.pebble_replay.proofs.Holding.{IsHeld}
use Rattle.pebble_replay.proofs.turn.Turn.hold.Given as goal

abbrev pub invariant-loop-u : goal.invariant-loop-u
invariant-loop-u l = IsHeld l.fn.self l.self (drop l.u-index l.u-items)
