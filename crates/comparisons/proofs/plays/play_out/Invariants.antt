use Rattle.std.proofs.Common.{◌≡◌, ◌-◌, length}
use Rattle.pebble_replay.specs.Player.{StandsFor, pebbles_of, place_of}
use Rattle.comparisons.proofs.plays.play_out.Given as goal

abbrev pub invariant-steps : goal.invariant-steps
invariant-steps l = record {
  stands : StandsFor l.graph l.order l.player;
  pebbles : pebbles_of l.player ≡ pebbles_of l.initial.player;
}

abbrev pub decreases-steps : goal.decreases-steps
decreases-steps l = length l.order - place_of l.player
