use Rattle.std.proofs.Common.{◌≡◌, ◌-◌, length}
use Rattle.pebble_replay.specs.Player.{moves_before, StandsFor}
use Rattle.pebble_replay.proofs.replays.replay.Given as goal

abbrev pub invariant-loop-moves : goal.invariant-loop-moves
invariant-loop-moves l = record {
  stands : StandsFor l.graph l.order l.player;
  pebbles : l.player.s ≡ l.s;
  made : l.moves.items ≡ moves_before l.graph l.s l.order l.player.place;
}

abbrev pub decreases-loop-moves : goal.decreases-loop-moves
decreases-loop-moves l = length l.order - l.player.place
