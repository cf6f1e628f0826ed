use Rattle.std.proofs.Common.{inr}
use Rattle.domain_count.proofs.Summing.{difference-of}
use Rattle.domain_count.proofs.summation.backward_difference.Goals as goal

pub returns-clause-difference : goal.returns-clause-difference
returns-clause-difference c =
    difference-of c.args.var c.args.sum.now c.in_ok-shifted.shifted c.subtracted.result c.in_ok-shifted.ensures.shifted c.subtracted.ensures.less

pub returns-clause-wide : goal.returns-clause-wide
returns-clause-wide c = λ e. inr (c.in_ok-shifted.shifted, (c.in_ok-shifted.ensures.shifted, c.subtracted.ensures.wide e))
