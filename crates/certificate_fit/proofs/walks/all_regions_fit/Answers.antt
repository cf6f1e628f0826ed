use Rattle.std.proofs.Common.{rules, subst, List}
use Rattle.std.specs.Prelude.{Ok, Err, option_map}
use Rattle.std.proofs.lemmas.List.{drop_all}
use Rattle.claims.specs.declared.place.Step.{Step}
use Rattle.reuse_paths.specs.Walks.{boxed_region}
use Rattle.reuse_paths.specs.WalkViews.{walk_of}
use Rattle.claims.specs.Claims.{AllHold, IsRefusal}
use Rattle.certificate_fit.specs.WalkFit.{region_fit, region_fit_at}
use Rattle.certificate_fit.proofs.FitFound.{mapped-stop, mapped-next, mapped-ended}
use Rattle.certificate_fit.proofs.walks.all_regions_fit.Goals as goal

pub returns-in_err-region_fits : goal.returns-in_err-region_fits
returns-in_err-region_fits c =
    let r = c.in_err-region_fits.field-0.0 in
    let walk = walk_of c.args.walking.now in
    let fit = region_fit walk c.args.list.now in
    let region = option_map boxed_region c.index-nodes-statement.result in
    let found_so = subst (λ (p : List Step). IsRefusal (region_fit_at walk c.loop-statement.statement p region) r) c.in_ok-at.ensures c.in_err-region_fits.ensures in
    let refused = c.loop-statement.invariant (Err r) (mapped-stop (option_map boxed_region) fit c.args.nodes.now c.loop-statement.statement c.index-nodes-statement.result c.loop-statement-test.true c.index-nodes-statement.is r
    found_so) in
    search rules

pub loop-statement-preserved : goal.loop-statement-preserved
loop-statement-preserved c = λ found h.
    let walk = walk_of c.args.walking.now in
    let fit = region_fit walk c.args.list.now in
    let region = option_map boxed_region c.index-nodes-statement.result in
    let found_so = subst (λ (p : List Step). AllHold (region_fit_at walk c.loop-statement.statement p region)) c.in_ok-at.ensures c.in_ok-region_fits.ensures in
    c.loop-statement.invariant found (mapped-next (option_map boxed_region) fit c.args.nodes.now c.loop-statement.statement c.index-nodes-statement.result c.loop-statement-test.true c.index-nodes-statement.is found
    found_so h)

pub returns : goal.returns
returns c =
    c.loop-statement.invariant (Ok tt) (mapped-ended (option_map boxed_region) (region_fit (walk_of c.args.walking.now) c.args.list.now) c.args.nodes.now c.loop-statement.statement (drop_all c.loop-statement.statement c.args.nodes.now c.loop-statement-test.false))
