use Rattle.std.proofs.Common.{drop}
use Rattle.pebble_replay.proofs.UsesIn.{ArePushed}
use Rattle.pebble_replay.proofs.uses_in.push_uses.Given as goal

abbrev pub invariant-loop-u : goal.invariant-loop-u
invariant-loop-u l = ArePushed l.left l.us l.initial.uses l.uses (drop l.u-index l.us)
