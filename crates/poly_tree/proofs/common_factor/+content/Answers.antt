use Rattle.std.proofs.Common.{◌<◌, arith, ap, ◌∙◌, rules, FitsSigned}
use Rattle.std.specs.Prelude.{unsigned_abs}
use mir.Syntax.{w128}
use Rattle.std.proofs.lemmas.Int.{to_z-of_z}
use Rattle.poly_tree.specs.Expansion.{nodes}
use Rattle.poly_tree.specs.Tree.{expansion}
use Rattle.poly_tree.proofs.Factors.{content-number, content-push}
use Rattle.poly_tree.proofs.Trees.{nodes-below}
use Rattle.poly_tree.proofs.common_factor.+content.Goals as goal

pub content-factor-requires : goal.content-factor-requires
content-factor-requires t c =
    let tree = expansion c.args.tree.now in
    let u = c.part-item.result in
    let fewer : nodes (expansion u) < nodes tree = nodes-below tree c.in-Over.field-0 c.in-Over.parts.now c.loop-part.part-index u c.in-Over.ensures c.loop-part-test.true c.part-item.is in
    let d : nodes (expansion u) < t = omega (arith, c.decreases) in
    (d, tt)

pub loop-part-preserved : goal.loop-part-preserved
loop-part-preserved t c =
    content-push c.in-Over.parts.now c.loop-part.part-index c.part-item.result c.args.start c.loop-part.factor c.content-factor.result c.loop-part-test.true c.part-item.is c.loop-part.invariant c.content-factor.ensures

pub returns-in-Number : goal.returns-in-Number
returns-in-Number t c =
    let fits : FitsSigned w128 c.in-Number.number = search rules in
    content-number (expansion c.args.tree.now) c.in-Number.number c.args.start c.unsigned_abs.result c.gcd.result c.in-Number.ensures (c.unsigned_abs.ensures.value ∙ ap unsigned_abs (to_z-of_z w128 c.in-Number.number fits)) c.gcd.ensures
