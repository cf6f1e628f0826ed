use Rattle.std.proofs.Common.{[]}
use Rattle.poly_tree.proofs.Made.{copied-more}
use Rattle.poly_tree.proofs.copy.+copied.Goals as goal

pub loop-part-preserved : goal.loop-part-preserved
loop-part-preserved t c =
    copied-more [] c.push.new.self.items c.loop-part.copies.items c.deref-part-items.result.now c.loop-part.part-index c.in_ok-copied-in-Over.field-0 c.part-item.result c.loop-part-test.true c.part-item.is
    c.in_ok-copied-in-Over.ensures c.in_ok-push-in-Over.ensures.items c.loop-part.invariant
