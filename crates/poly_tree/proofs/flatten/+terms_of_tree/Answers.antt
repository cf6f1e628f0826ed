use Rattle.poly_tree.specs.Printed.{parts_terms}
use Rattle.poly_tree.specs.Tree.{parts_of}
use Rattle.poly_tree.proofs.Made.{terms-more}
use Rattle.poly_tree.proofs.flatten.+terms_of_tree.Goals as goal

pub loop-power-preserved : goal.loop-power-preserved
loop-power-preserved t c =
    let parts = c.deref-part-items.result.now in
    let appended = rw c.from.ensures at c.in_ok-append_with_power-in-Over.ensures in
    terms-more c.in-Over.var c.loop-power.power c.loop-power.terms.items c.append_with_power.new.terms.items c.in_ok-inner-in-Over.inner.items (parts_terms c.in-Over.var 0 (parts_of parts))
    parts c.part-item.result c.loop-power-test.true c.part-item.is appended c.in_ok-inner-in-Over.ensures c.loop-power.invariant
