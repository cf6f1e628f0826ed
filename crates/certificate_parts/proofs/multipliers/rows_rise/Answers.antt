use Rattle.std.proofs.Common.{◌≡◌, true, sym, ap, ◌∙◌}
use Rattle.std.proofs.Math.ListN.{drop_of_length-le}
use Rattle.certificate_parts.specs.Multipliers.{rise_from}
use Rattle.certificate_parts.proofs.Weights.{rise_is}
use Rattle.certificate_parts.proofs.multipliers.rows_rise.Goals as goal

pub returns-clause-legal : goal.returns-clause-legal
returns-clause-legal c = λ _.
    let all : rise_from 0 c.args.weights.now ≡ true =
    sym c.loop-row.invariant.rise ∙ ap (rise_from c.loop-row.least) (drop_of_length-le c.args.weights.now c.loop-row-test.false) in
    (rise_is 0 c.args.weights.now all).1
