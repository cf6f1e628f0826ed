use Rattle.std.proofs.Common.{◌≡◌, ◌-◌, length}
use Rattle.iolb_host.specs.Sink.{AppendsPiece}
use Rattle.pebble_replay.specs.Player.{StandsFor, moves_before}
use Rattle.tile_sched.specs.Lines.{moves_text}
use Rattle.tile_sched.proofs.writing.put_steps.Given as goal

abbrev pub invariant-loop-moves : goal.invariant-loop-moves
invariant-loop-moves g l = record {
  stands : StandsFor l.graph l.order l.player;
  pebbles : l.player.s ≡ l.fn.player.s;
  written : AppendsPiece (g.O.Sink.written l.fn.out) (g.O.Sink.written l.out) (moves_text (moves_before l.graph l.fn.player.s l.order l.player.place));
  calm : g.O.Sink.faults l.out ≡ g.O.Sink.faults l.fn.out;
  spared : g.O.Sink.wants l.out ≡ g.O.Sink.wants l.fn.out;
}

abbrev pub decreases-loop-moves : goal.decreases-loop-moves
decreases-loop-moves g l = length l.order - l.player.place
