use Rattle.std.proofs.Common.{drop}
use Rattle.pebble_replay.proofs.Loading.{IsLoading}
use Rattle.pebble_replay.proofs.turn.Turn.load_all.Given as goal

abbrev pub invariant-loop-u : goal.invariant-loop-u
invariant-loop-u l = IsLoading l.fn.self l.self (drop l.u-index l.u-items) l.u-items
