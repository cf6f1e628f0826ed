use Rattle.std.proofs.Common.{rules}
use Rattle.domain_count.proofs.Summing.{between-of, passes-lower, passes-last}
use Rattle.domain_count.proofs.operations.between.Goals as goal

pub returns-in_err-lower-clause-wide : goal.returns-in_err-lower-clause-wide
returns-in_err-lower-clause-wide c =
    λ e. passes-lower c.args.var c.args.bounds.now c.args.sum.now c.in_ok-upper.upper c.in_ok-before.before c.in_ok-before.ensures c.in_ok-upper.ensures.at_form
    (c.in_err-lower.ensures.wide (search rules))

pub returns-clause-total : goal.returns-clause-total
returns-clause-total c =
    between-of c.args.var c.args.bounds.now c.args.sum.now c.in_ok-upper.upper c.in_ok-lower.lower c.in_ok-before.before c.subtracted.result c.in_ok-before.ensures
    c.in_ok-upper.ensures.at_form c.in_ok-lower.ensures.at_form c.subtracted.ensures.less

pub returns-clause-wide : goal.returns-clause-wide
returns-clause-wide c =
    λ e. passes-last c.args.var c.args.bounds.now c.args.sum.now c.in_ok-upper.upper c.in_ok-lower.lower c.in_ok-before.before c.in_ok-before.ensures
    c.in_ok-upper.ensures.at_form c.in_ok-lower.ensures.at_form (c.subtracted.ensures.wide e)
