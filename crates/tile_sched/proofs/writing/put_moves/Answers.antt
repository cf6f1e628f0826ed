use Rattle.std.proofs.Common.{sym, ◌∙◌, ap, List, ℕ, ◌+◌, ◌++◌, append_assoc, drop}
use Rattle.tile_sched.specs.Lines.{move_line, moves_text}
use Rattle.tile_sched.proofs.Pieces.{on_err, part_on, piece_on}
use Rattle.tile_sched.proofs.Texts.{next_line}
use Rattle.tile_sched.proofs.writing.put_moves.Goals as goal

pub returns-in_err-put_move-clause-err : goal.returns-in_err-put_move-clause-err
returns-in_err-put_move-clause-err g c =
    on_err _ c.from_residual.result
    (part_on _ (g.O.Sink.written c.loop-step.out) _ c.loop-step.invariant.0 _ (moves_text (drop (c.loop-step.step-index + 1) c.args.moves.now)) _
    (c.loop-step.invariant.1 ∙ ap (λ (l : List ℕ). c.loop-step.invariant.0 ++ l) (next_line c.args.moves.now c.loop-step.step-index _ c.loop-step-test.true))
    c.loop-step.invariant.2 c.in_err-put_move.ensures.err)

pub loop-step-preserved : goal.loop-step-preserved
loop-step-preserved g c =
    let next = next_line c.args.moves.now c.loop-step.step-index _ c.loop-step-test.true in (
      c.loop-step.invariant.0 ++ move_line _,
      c.loop-step.invariant.1 ∙ ap (λ (l : List ℕ). c.loop-step.invariant.0 ++ l) next
          ∙ sym (append_assoc c.loop-step.invariant.0 _ (moves_text (drop (c.loop-step.step-index + 1) c.args.moves.now))),
      piece_on _ (g.O.Sink.written c.loop-step.out) _ c.loop-step.invariant.0 _ c.loop-step.invariant.2 c.in_ok-put_move.ensures.ok,
      c.in_ok-put_move.ensures.faults ∙ c.loop-step.invariant.3,
      c.in_ok-put_move.ensures.wants ∙ c.loop-step.invariant.4,
    )
