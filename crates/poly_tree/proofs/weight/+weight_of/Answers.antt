use Rattle.std.proofs.Common.{min}
use Rattle.iolb_model.specs.declared.limits.TheConstants.{MEASURE}
use Rattle.poly_tree.specs.Expansion.{weight}
use Rattle.poly_tree.specs.Tree.{expansion}
use Rattle.poly_tree.proofs.Made.{weight-more}
use Rattle.poly_tree.proofs.weight.+weight_of.Goals as goal

pub loop-part-preserved : goal.loop-part-preserved
loop-part-preserved t c =
    weight-more c.loop-part.sum c.weight_of.result c.min-sum.result MEASURE (min (weight (expansion c.args.tree.now)) MEASURE) c.deref-part-items.result.now c.loop-part.part-index c.part-item.result
    c.loop-part-test.true c.part-item.is c.weight_of.ensures c.min-sum.ensures c.loop-part.invariant.1
