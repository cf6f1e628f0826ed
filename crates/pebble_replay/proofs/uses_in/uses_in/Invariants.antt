use Rattle.pebble_replay.proofs.UsesIn.{AreCollected}
use Rattle.pebble_replay.proofs.uses_in.uses_in.Given as goal

abbrev pub invariant-loop-place : goal.invariant-loop-place
invariant-loop-place l = AreCollected l.graph l.order l.uses l.place
