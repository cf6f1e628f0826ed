use Rattle.std.proofs.Common.{◌∙◌, ap}
use Rattle.pebble_replay.specs.Player.{moves_at}
use Rattle.tile_sched.proofs.Pieces.{on_err}
use Rattle.tile_sched.proofs.Texts.{steps_more, steps_part, steps_so_far}
use Rattle.tile_sched.proofs.writing.put_steps.Goals as goal

pub returns-in_err-put_moves-in-Ok-Some-clause-err :
    goal.returns-in_err-put_moves-in-Ok-Some-clause-err
returns-in_err-put_moves-in-Ok-Some-clause-err g c =
    let moves = rw c.in-Ok-Some.field-0-is at c.in-Ok-Some.ensures.moves in
    let below = rw c.in-Ok-Some.field-0-is at c.in-Ok-Some.ensures.before_end in
    on_err _ c.from_residual.result
    (steps_part c.args.graph.now c.args.player.s c.args.order.now c.loop-moves.player.place c.as_slice.result.now _ (g.O.Sink.written c.loop-moves.out) _ below
    (c.as_slice.ensures.value ∙ moves ∙ ap (λ s. moves_at c.args.graph.now s c.args.order.now c.loop-moves.player.place) c.loop-moves.invariant.pebbles)
    c.loop-moves.invariant.written c.in_err-put_moves-in-Ok-Some.ensures.err)

pub loop-moves-preserved : goal.loop-moves-preserved
loop-moves-preserved g c =
    let more = rw c.in-Ok-Some.field-0-is at c.in-Ok-Some.ensures.more in
    let moves = rw c.in-Ok-Some.field-0-is at c.in-Ok-Some.ensures.moves in
    let below = rw c.in-Ok-Some.field-0-is at c.in-Ok-Some.ensures.before_end in
    record {
      stands = more.0;
      pebbles = more.2 ∙ c.loop-moves.invariant.pebbles;
      written = rw more.1
          (steps_more c.args.graph.now c.args.player.s c.args.order.now c.loop-moves.player.place c.as_slice.result.now _ (g.O.Sink.written c.loop-moves.out) _ below
          (c.as_slice.ensures.value ∙ moves ∙ ap (λ s. moves_at c.args.graph.now s c.args.order.now c.loop-moves.player.place) c.loop-moves.invariant.pebbles)
          c.loop-moves.invariant.written c.in_ok-put_moves-in-Ok-Some.ensures.ok);
      calm = c.in_ok-put_moves-in-Ok-Some.ensures.faults ∙ c.loop-moves.invariant.calm;
      spared = c.in_ok-put_moves-in-Ok-Some.ensures.wants ∙ c.loop-moves.invariant.spared;
    }

pub returns-in-Err-clause-err : goal.returns-in-Err-clause-err
returns-in-Err-clause-err g c =
    steps_so_far c.args.graph.now c.args.player.s c.args.order.now c.loop-moves.player.place _ _ c.loop-moves.invariant.stands.place c.loop-moves.invariant.written
