use Rattle.std.proofs.Common.{refl, subst, ℕ}
use Rattle.std.specs.Prelude.{OnOk, OnErr}
use Rattle.iolb_host.specs.Sink.{AppendsPart, AppendsPiece}
use Rattle.iolb_model.specs.Game.{loads, stores}
use Rattle.pebble_replay.specs.Played.{played, computes}
use Rattle.tile_sched.specs.Lines.{moves_text, totals_text}
use Rattle.tile_sched.proofs.Pieces.{on_err, on_err_so, on_ok_so, part_last, part_of, piece_on}
use Rattle.tile_sched.proofs.writing.put_lines.Goals as goal

pub returns-in_err-totals-clause-err : goal.returns-in_err-totals-clause-err
returns-in_err-totals-clause-err g c =
    let moves = played c.args.graph.now c.args.player.s c.args.order.now in
    on_err _ c.from_residual.result
    (part_of _ _ (moves_text moves) (totals_text (loads moves) (stores moves) (computes moves)) _ refl c.in_err-totals.ensures.err)

pub returns-clause-err : goal.returns-clause-err
returns-clause-err g c =
    let moves = played c.args.graph.now c.args.player.s c.args.order.now in
    on_err_so _ _ c.put_totals.result
    (part_last _ (g.O.Sink.written c.put_steps.new.out) _ (moves_text moves) (totals_text (loads moves) (stores moves) (computes moves)) c.in_ok-totals.ensures.ok)
    (subst (λ (t : ℕ × ℕ × ℕ). OnErr c.put_totals.result (AppendsPart (g.O.Sink.written c.put_steps.new.out) (g.O.Sink.written c.put_totals.new.out) (totals_text t.0 t.1 t.2)))
    c.in_ok-totals.ensures.totals c.put_totals.ensures.err)

pub returns-clause-ok : goal.returns-clause-ok
returns-clause-ok g c =
    let moves = played c.args.graph.now c.args.player.s c.args.order.now in
    on_ok_so _ _ c.put_totals.result
    (piece_on _ (g.O.Sink.written c.put_steps.new.out) _ (moves_text moves) (totals_text (loads moves) (stores moves) (computes moves)) c.in_ok-totals.ensures.ok)
    (subst (λ (t : ℕ × ℕ × ℕ). OnOk c.put_totals.result (AppendsPiece (g.O.Sink.written c.put_steps.new.out) (g.O.Sink.written c.put_totals.new.out) (totals_text t.0 t.1 t.2)))
    c.in_ok-totals.ensures.totals c.put_totals.ensures.ok)
