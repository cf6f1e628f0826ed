use Rattle.poly_tree.proofs.Made.{zeros-more}
use Rattle.poly_tree.proofs.terms.zeros.Goals as goal

pub loop-preserved : goal.loop-preserved
loop-preserved c = zeros-more c.push.new.self.items c.loop.zeros.items c.loop.counter c.in_ok-push.ensures.items c.loop.invariant
