use Rattle.std.proofs.Common.{rules}
use Rattle.std.specs.Prelude.{Ok, Err}
use Rattle.std.proofs.lemmas.List.{drop_all}
use Rattle.affine_program.specs.Parts.{meaning}
use Rattle.joint_partition.specs.View.{labeling_of}
use Rattle.iolb_check.specs.JointFit.{labeling_at}
use Rattle.certificate_fit.proofs.FitFound.{mapped-stop, mapped-next, mapped-ended}
use Rattle.iolb_check.proofs.fit_labelings.all_labelings_fit.Goals as goal

pub returns-in_err-labeling_fits : goal.returns-in_err-labeling_fits
returns-in_err-labeling_fits c =
    let r = c.in_err-labeling_fits.field-0.0 in
    let each = labeling_at (meaning c.args.program.now) c.args.size c.args.list.now in
    let refused = c.loop-index.invariant (Err r) (mapped-stop labeling_of each c.args.labelings.now c.loop-index.index c.index-labelings-index.result c.loop-index-test.true c.index-labelings-index.is r
    c.in_err-labeling_fits.ensures) in
    search rules

pub loop-index-preserved : goal.loop-index-preserved
loop-index-preserved c = λ found h.
    let each = labeling_at (meaning c.args.program.now) c.args.size c.args.list.now in
    c.loop-index.invariant found (mapped-next labeling_of each c.args.labelings.now c.loop-index.index c.index-labelings-index.result c.loop-index-test.true c.index-labelings-index.is found
    c.in_ok-labeling_fits.ensures h)

pub returns : goal.returns
returns c =
    let each = labeling_at (meaning c.args.program.now) c.args.size c.args.list.now in
    c.loop-index.invariant (Ok tt) (mapped-ended labeling_of each c.args.labelings.now c.loop-index.index (drop_all c.loop-index.index c.args.labelings.now c.loop-index-test.false))
