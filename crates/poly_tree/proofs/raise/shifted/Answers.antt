use Rattle.std.proofs.Common.{[], ◌∷◌, ap}
use Rattle.poly_tree.specs.Expansion.{zero_expansion}
use Rattle.poly_tree.specs.Tree.{expansions}
use Rattle.poly_tree.proofs.Made.{copied-more, zero-more}
use Rattle.poly_tree.proofs.raise.shifted.Goals as goal

pub loop-part-preserved : goal.loop-part-preserved
loop-part-preserved c =
    copied-more (zero_expansion ∷ []) c.push-in-loop-part.new.self.items c.loop-part.copies.items c.args.parts.now c.loop-part.part-index c.in_ok-copied.field-0 c.part-item.result c.loop-part-test.true
    c.part-item.is c.in_ok-copied.ensures c.in_ok-push-2.ensures.items c.loop-part.invariant

pub loop-part-init : goal.loop-part-init
loop-part-init c = zero-more c.push.new.self.items c.new-copies.result.items [] c.in_ok-push.ensures.items (ap expansions c.new-copies.ensures.items)
