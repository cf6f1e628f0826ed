use Rattle.std.proofs.Common.{append_assoc, ◌++◌}
use Rattle.std.specs.Prelude.{codes}
use Rattle.tile_sched.specs.Lines.{number_line}
use Rattle.tile_sched.proofs.Pieces.{on_err, on_err_so, part_last, part_of, part_on, piece_on}
use Rattle.tile_sched.proofs.writing.put_totals.Goals as goal

pub returns-in_err-put_number-clause-err : goal.returns-in_err-put_number-clause-err
returns-in_err-put_number-clause-err g c =
    on_err _ c.from_residual.result
    (part_of _ _ (number_line (codes "loads ") c.args.totals.0) (number_line (codes "stores ") c.args.totals.1 ++ number_line (codes "computes ") c.args.totals.2) _
    (append_assoc (number_line (codes "loads ") c.args.totals.0) (number_line (codes "stores ") c.args.totals.1) (number_line (codes "computes ") c.args.totals.2)) c.in_err-put_number.ensures.err)

pub returns-in_err-put_number-2-clause-err : goal.returns-in_err-put_number-2-clause-err
returns-in_err-put_number-2-clause-err g c =
    on_err _ c.from_residual-in_err-put_number-2.result
    (part_on _ (g.O.Sink.written c.put_number.new.out) _ (number_line (codes "loads ") c.args.totals.0) (number_line (codes "stores ") c.args.totals.1) (number_line (codes "computes ") c.args.totals.2) _
    (append_assoc (number_line (codes "loads ") c.args.totals.0) (number_line (codes "stores ") c.args.totals.1) (number_line (codes "computes ") c.args.totals.2)) c.in_ok-put_number.ensures.ok c.in_err-put_number-2.ensures.err)

pub returns-clause-err : goal.returns-clause-err
returns-clause-err g c =
    on_err_so _ _ c.put_number-3.result
    (part_last _ (g.O.Sink.written c.put_number-2.new.out) _ (number_line (codes "loads ") c.args.totals.0 ++ number_line (codes "stores ") c.args.totals.1) (number_line (codes "computes ") c.args.totals.2)
    (piece_on _ (g.O.Sink.written c.put_number.new.out) _ (number_line (codes "loads ") c.args.totals.0) (number_line (codes "stores ") c.args.totals.1) c.in_ok-put_number.ensures.ok c.in_ok-put_number-2.ensures.ok))
    c.put_number-3.ensures.err
