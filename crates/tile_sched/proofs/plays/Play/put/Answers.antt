use Rattle.std.proofs.Common.{subst, List, ℕ}
use Rattle.std.specs.Prelude.{OnErr}
use Rattle.iolb_host.specs.Sink.{AppendsPart}
use Rattle.pebble_replay.specs.Played.{played}
use Rattle.pebble_replay.specs.Player.{pebbles_of}
use Rattle.tile_sched.specs.Lines.{play_text}
use Rattle.tile_sched.specs.Plays.{Setting, moves_of}
use Rattle.tile_sched.proofs.plays.Play.put.Goals as goal

pub returns-clause-err : goal.returns-clause-err
returns-clause-err g c =
    subst (λ (setting : Setting). OnErr c.put_lines.result (AppendsPart (g.O.Sink.written c.args.out.now) (g.O.Sink.written c.put_lines.new.out) (play_text (moves_of setting)))) c.self.view_is
    (subst (λ (order : List ℕ). OnErr c.put_lines.result (AppendsPart (g.O.Sink.written c.args.out.now) (g.O.Sink.written c.put_lines.new.out) (play_text (played c.self.inside.graph (pebbles_of c.self.inside.player) order))))
    c.as_slice.ensures.value c.put_lines.ensures.err)
