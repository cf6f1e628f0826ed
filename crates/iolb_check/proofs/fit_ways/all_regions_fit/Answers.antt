use Rattle.std.proofs.Common.{rules}
use Rattle.std.specs.Prelude.{Ok, Err, option_map}
use Rattle.std.proofs.lemmas.List.{drop_all}
use Rattle.joint_partition.specs.Term.{labels_of}
use Rattle.joint_partition.specs.View.{family_of}
use Rattle.reuse_paths.specs.WalkViews.{walk_of}
use Rattle.reuse_paths.specs.Walks.{boxed_region}
use Rattle.iolb_check.specs.JointFit.{labeled_fit}
use Rattle.certificate_fit.proofs.FitFound.{mapped-stop, mapped-next, mapped-ended}
use Rattle.iolb_check.proofs.fit_ways.all_regions_fit.Goals as goal

pub returns-in_err-labeled_fits : goal.returns-in_err-labeled_fits
returns-in_err-labeled_fits c =
    let r = c.in_err-labeled_fits.field-0.0 in
    let each = labeled_fit (walk_of c.args.walking.now) (labels_of (family_of c.args.family.now) c.args.way.now.labels) c.args.list.now in
    let refused = c.loop-statement.invariant (Err r) (mapped-stop (option_map boxed_region) each c.args.regions.now c.loop-statement.statement c.index-regions-statement.result c.loop-statement-test.true c.index-regions-statement.is r
    c.in_err-labeled_fits.ensures) in
    search rules

pub loop-statement-preserved : goal.loop-statement-preserved
loop-statement-preserved c = λ found h.
    let each = labeled_fit (walk_of c.args.walking.now) (labels_of (family_of c.args.family.now) c.args.way.now.labels) c.args.list.now in
    c.loop-statement.invariant found (mapped-next (option_map boxed_region) each c.args.regions.now c.loop-statement.statement c.index-regions-statement.result c.loop-statement-test.true c.index-regions-statement.is found
    c.in_ok-labeled_fits.ensures h)

pub returns : goal.returns
returns c =
    let each = labeled_fit (walk_of c.args.walking.now) (labels_of (family_of c.args.family.now) c.args.way.now.labels) c.args.list.now in
    c.loop-statement.invariant (Ok tt) (mapped-ended (option_map boxed_region) each c.args.regions.now c.loop-statement.statement (drop_all c.loop-statement.statement c.args.regions.now c.loop-statement-test.false))
