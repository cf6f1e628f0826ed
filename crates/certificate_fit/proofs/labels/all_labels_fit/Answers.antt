use Rattle.std.proofs.Common.{rules}
use Rattle.std.specs.Prelude.{Ok, Err, option_map}
use Rattle.std.proofs.lemmas.List.{drop_all}
use Rattle.affine_program.specs.Parts.{meaning}
use Rattle.reuse_paths.specs.Families.{boxed_forms}
use Rattle.certificate_fit.specs.FamilyFit.{input_fit}
use Rattle.certificate_fit.proofs.FitFound.{mapped-stop, mapped-next, mapped-ended}
use Rattle.certificate_fit.proofs.labels.all_labels_fit.Goals as goal

pub returns-in_err-input_fits : goal.returns-in_err-input_fits
returns-in_err-input_fits c =
    let r = c.in_err-input_fits.field-0.0 in
    let fit = input_fit (meaning c.args.program.now) c.args.size c.args.list.now in
    let refused = c.loop-array.invariant (Err r) (mapped-stop (option_map boxed_forms) fit c.args.labels.now c.loop-array.array c.index-labels-array.result c.loop-array-test.true c.index-labels-array.is r
    c.in_err-input_fits.ensures) in
    search rules

pub loop-array-preserved : goal.loop-array-preserved
loop-array-preserved c = λ found h.
    let fit = input_fit (meaning c.args.program.now) c.args.size c.args.list.now in
    c.loop-array.invariant found (mapped-next (option_map boxed_forms) fit c.args.labels.now c.loop-array.array c.index-labels-array.result c.loop-array-test.true c.index-labels-array.is found
    c.in_ok-input_fits.ensures h)

pub returns : goal.returns
returns c =
    let fit = input_fit (meaning c.args.program.now) c.args.size c.args.list.now in
    c.loop-array.invariant (Ok tt) (mapped-ended (option_map boxed_forms) fit c.args.labels.now c.loop-array.array (drop_all c.loop-array.array c.args.labels.now c.loop-array-test.false))
