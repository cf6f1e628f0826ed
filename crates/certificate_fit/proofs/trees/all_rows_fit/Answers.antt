use Rattle.std.proofs.Common.{rules}
use Rattle.std.specs.Prelude.{Ok, Err}
use Rattle.std.proofs.lemmas.List.{drop_all}
use Rattle.affine_program.specs.Parts.{meaning}
use Rattle.certificate_fit.specs.TreeFit.{row_at}
use Rattle.certificate_fit.proofs.FitFound.{mapped-stop, mapped-next, mapped-ended}
use Rattle.certificate_fit.proofs.trees.all_rows_fit.Goals as goal
use Rattle.dep_quast.specs.Quasts.{row_trees}

pub returns-in_err-row_at_fits : goal.returns-in_err-row_at_fits
returns-in_err-row_at_fits c =
    let r = c.in_err-row_at_fits.field-0.0 in
    let refused = c.loop-statement.invariant (Err r) (mapped-stop row_trees (row_at (meaning c.args.program.now) c.args.place.now) c.args.rows.now c.loop-statement.statement c.index-rows-statement.result c.loop-statement-test.true c.index-rows-statement.is r
    c.in_err-row_at_fits.ensures) in
    search rules

pub loop-statement-preserved : goal.loop-statement-preserved
loop-statement-preserved c = λ found h.
    c.loop-statement.invariant found (mapped-next row_trees (row_at (meaning c.args.program.now) c.args.place.now) c.args.rows.now c.loop-statement.statement c.index-rows-statement.result c.loop-statement-test.true c.index-rows-statement.is found
    c.in_ok-row_at_fits.ensures h)

pub returns : goal.returns
returns c = c.loop-statement.invariant (Ok tt) (mapped-ended row_trees (row_at (meaning c.args.program.now) c.args.place.now) c.args.rows.now c.loop-statement.statement (drop_all c.loop-statement.statement c.args.rows.now c.loop-statement-test.false))
