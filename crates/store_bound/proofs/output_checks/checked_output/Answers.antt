use Rattle.store_bound.proofs.Counting.{output-count}
use Rattle.store_bound.proofs.output_checks.checked_output.Goals as goal

pub returns-clause-counted : goal.returns-clause-counted
returns-clause-counted c =
    output-count c.args.program.now c.args.output.now c.in_ok-count.count c.params-params.ensures.kept.assumed c.in_ok-count.ensures.counts c.in_ok-count.ensures.parameters c.in_ok-count.ensures.legal
