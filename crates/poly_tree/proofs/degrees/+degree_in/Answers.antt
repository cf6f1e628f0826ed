use Rattle.std.proofs.Common.{◌<◌, arith, ◌∙◌, sym}
use Rattle.poly_tree.specs.Expansion.{nodes, parts_degree_in}
use Rattle.poly_tree.specs.Tree.{expansion, parts_of}
use Rattle.poly_tree.proofs.DegreeBounds.{degree_in-here}
use Rattle.poly_tree.proofs.Trees.{nodes-below}
use Rattle.poly_tree.proofs.Made.{degree-more}
use Rattle.poly_tree.proofs.degrees.+degree_in.Goals as goal

pub returns-then-v-var : goal.returns-then-v-var
returns-then-v-var t c =
    c.saturating_sub.ensures ∙ sym (degree_in-here c.args.var c.in-Over.v (expansion c.args.tree.now) c.in-Over.parts.now c.in-Over.ensures c.if-v-var.true)

pub degree_in-requires : goal.degree_in-requires
degree_in-requires t c =
    let tree = expansion c.args.tree.now in
    let u = c.part-item.result in
    let fewer : nodes (expansion u) < nodes tree = nodes-below tree c.in-Over.v c.in-Over.parts.now c.loop-part.part-index u c.in-Over.ensures c.loop-part-test.true c.part-item.is in
    let d : nodes (expansion u) < t = omega (arith, c.decreases) in
    (d, tt)

pub loop-part-preserved : goal.loop-part-preserved
loop-part-preserved t c =
    degree-more c.args.var c.loop-part.degree c.max-degree.result c.degree_in.result (parts_degree_in c.args.var (parts_of c.in-Over.parts.now)) c.in-Over.parts.now c.loop-part.part-index c.part-item.result
    c.loop-part-test.true c.part-item.is c.degree_in.ensures c.max-degree.ensures c.loop-part.invariant
