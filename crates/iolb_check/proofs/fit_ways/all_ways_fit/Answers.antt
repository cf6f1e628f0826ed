use Rattle.std.proofs.Common.{rules}
use Rattle.std.specs.Prelude.{Ok, Err}
use Rattle.std.proofs.lemmas.List.{drop_all}
use Rattle.joint_partition.specs.View.{way_of}
use Rattle.iolb_check.specs.JointWalks.{way_in}
use Rattle.certificate_fit.proofs.FitFound.{mapped-stop, mapped-next, mapped-ended}
use Rattle.iolb_check.proofs.fit_ways.all_ways_fit.Goals as goal

pub returns-in_err-way_fits : goal.returns-in_err-way_fits
returns-in_err-way_fits c =
    let r = c.in_err-way_fits.field-0.0 in
    let each = way_in c.args.walks.now c.args.list.now in
    let refused = c.loop-index.invariant (Err r) (mapped-stop way_of each c.args.ways.now c.loop-index.index c.index-ways-index.result c.loop-index-test.true c.index-ways-index.is r
    c.in_err-way_fits.ensures) in
    search rules

pub loop-index-preserved : goal.loop-index-preserved
loop-index-preserved c = λ found h.
    let each = way_in c.args.walks.now c.args.list.now in
    c.loop-index.invariant found (mapped-next way_of each c.args.ways.now c.loop-index.index c.index-ways-index.result c.loop-index-test.true c.index-ways-index.is found
    c.in_ok-way_fits.ensures h)

pub returns : goal.returns
returns c =
    let each = way_in c.args.walks.now c.args.list.now in
    c.loop-index.invariant (Ok tt) (mapped-ended way_of each c.args.ways.now c.loop-index.index (drop_all c.loop-index.index c.args.ways.now c.loop-index-test.false))
