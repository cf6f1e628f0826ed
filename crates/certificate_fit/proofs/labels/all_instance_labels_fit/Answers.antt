use Rattle.std.proofs.Common.{rules}
use Rattle.std.specs.Prelude.{Ok, Err, option_map}
use Rattle.std.proofs.lemmas.List.{drop_all}
use Rattle.affine_program.specs.Parts.{meaning}
use Rattle.reuse_paths.specs.Families.{boxed_forms}
use Rattle.certificate_fit.specs.FamilyFit.{instance_fit}
use Rattle.certificate_fit.proofs.FitFound.{mapped-stop, mapped-next, mapped-ended}
use Rattle.certificate_fit.proofs.labels.all_instance_labels_fit.Goals as goal

pub returns-in_err-instance_fits : goal.returns-in_err-instance_fits
returns-in_err-instance_fits c =
    let r = c.in_err-instance_fits.field-0.0 in
    let fit = instance_fit (meaning c.args.program.now) c.args.size c.args.list.now in
    let refused = c.loop-statement.invariant (Err r) (mapped-stop (option_map boxed_forms) fit c.args.labels.now c.loop-statement.statement c.index-labels-statement.result c.loop-statement-test.true c.index-labels-statement.is r
    c.in_err-instance_fits.ensures) in
    search rules

pub loop-statement-preserved : goal.loop-statement-preserved
loop-statement-preserved c = λ found h.
    let fit = instance_fit (meaning c.args.program.now) c.args.size c.args.list.now in
    c.loop-statement.invariant found (mapped-next (option_map boxed_forms) fit c.args.labels.now c.loop-statement.statement c.index-labels-statement.result c.loop-statement-test.true c.index-labels-statement.is found
    c.in_ok-instance_fits.ensures h)

pub returns : goal.returns
returns c =
    let fit = instance_fit (meaning c.args.program.now) c.args.size c.args.list.now in
    c.loop-statement.invariant (Ok tt) (mapped-ended (option_map boxed_forms) fit c.args.labels.now c.loop-statement.statement (drop_all c.loop-statement.statement c.args.labels.now c.loop-statement-test.false))
