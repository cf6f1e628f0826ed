use Rattle.std.proofs.Common.{arith}
use Rattle.cover_lp.proofs.Pairs.{bare-step}
use Rattle.cover_lp.proofs.least.first_bare.Goals as goal

pub loop-coordinate-preserved : goal.loop-coordinate-preserved
loop-coordinate-preserved c = bare-step c.args.sets.now c.loop-coordinate.coordinate c.loop-coordinate.invariant (λ bare. let is = c.if-is_bare.ensures.1 bare in absurd cc)

pub returns-clause-none : goal.returns-clause-none
returns-clause-none c = λ coordinate within. c.loop-coordinate.invariant coordinate (omega (arith, within, c.loop-coordinate-test.false))
