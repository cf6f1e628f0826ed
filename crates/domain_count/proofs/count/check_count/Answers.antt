use Rattle.std.proofs.Common.{ap, length}
use Rattle.affine_program.specs.Parts.{meaning}
use Rattle.claims.proofs.Found.{handed-refusal}
use Rattle.domain_count.specs.CountClaims.{count_claims}
use Rattle.domain_count.proofs.Whole.{count-counts, count-holds, count-refused, count-right, ranges-hold, ranges-refused}
use Rattle.domain_count.proofs.count.check_count.Goals as goal

pub returns-in_err-ranges_shown-clause-refused : goal.returns-in_err-ranges_shown-clause-refused
returns-in_err-ranges_shown-clause-refused c =
    let refused = c.in_err-ranges_shown.field-0.0 in
    handed-refusal (count_claims (meaning c.args.program.now) c.args.nest.now c.args.sums.now c.args.place.now) refused c.from_residual.result c.from_residual.ensures
    (ranges-refused (meaning c.args.program.now) c.args.nest.now c.bounds.result.now c.args.sums.now c.shown.result.now c.args.place.now c.bounds.ensures c.shown.ensures refused c.in_err-ranges_shown.ensures)

pub returns-clause-right : goal.returns-clause-right
returns-clause-right c =
    count-right (meaning c.args.program.now) c.args.nest.now c.bounds-2.result.now c.args.sums.now c.sums.result.now (length c.params-params.result.now) c.args.place.now
    c.bounds-2.ensures c.sums.ensures (ap length c.params-params.ensures.params)
    (ranges-hold (meaning c.args.program.now) c.args.nest.now c.bounds.result.now c.args.sums.now c.shown.result.now c.args.place.now c.bounds.ensures c.shown.ensures c.in_ok-ranges_shown.ensures)
    c.sum_up.result c.sum_up.ensures.total

pub returns-clause-counts : goal.returns-clause-counts
returns-clause-counts c =
    count-counts (meaning c.args.program.now) c.args.nest.now c.args.sums.now c.sum_up.result c.params-params.ensures.kept.well_formed c.requires.bounds
    (count-right (meaning c.args.program.now) c.args.nest.now c.bounds-2.result.now c.args.sums.now c.sums.result.now (length c.params-params.result.now) c.args.place.now
    c.bounds-2.ensures c.sums.ensures (ap length c.params-params.ensures.params)
    (ranges-hold (meaning c.args.program.now) c.args.nest.now c.bounds.result.now c.args.sums.now c.shown.result.now c.args.place.now c.bounds.ensures c.shown.ensures c.in_ok-ranges_shown.ensures)
    c.sum_up.result c.sum_up.ensures.total)

pub returns-clause-holds : goal.returns-clause-holds
returns-clause-holds c =
    count-holds (meaning c.args.program.now) c.args.nest.now c.bounds-2.result.now c.args.sums.now c.sums.result.now (length c.params-params.result.now) c.args.place.now
    c.bounds-2.ensures c.sums.ensures (ap length c.params-params.ensures.params)
    (ranges-hold (meaning c.args.program.now) c.args.nest.now c.bounds.result.now c.args.sums.now c.shown.result.now c.args.place.now c.bounds.ensures c.shown.ensures c.in_ok-ranges_shown.ensures)
    c.sum_up.result c.sum_up.ensures.holds

pub returns-clause-refused : goal.returns-clause-refused
returns-clause-refused c =
    count-refused (meaning c.args.program.now) c.args.nest.now c.bounds-2.result.now c.args.sums.now c.sums.result.now (length c.params-params.result.now) c.args.place.now
    c.bounds-2.ensures c.sums.ensures (ap length c.params-params.ensures.params)
    (ranges-hold (meaning c.args.program.now) c.args.nest.now c.bounds.result.now c.args.sums.now c.shown.result.now c.args.place.now c.bounds.ensures c.shown.ensures c.in_ok-ranges_shown.ensures)
    c.sum_up.result c.sum_up.ensures.refused
