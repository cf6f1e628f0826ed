use Rattle.std.proofs.Common.{◌≡◌, subst, map, take, ℤ, ◌≤◌, ◌<◌, ◌*◌, arith, mul-le-mul_left, to_z, of_z}
use Rattle.std.specs.Prelude.{unsigned_abs}
use mir.Syntax.{w128}
use Rattle.std.proofs.lemmas.Int.{to_z-of_z}
use Rattle.poly_tree.specs.Expansion.{weight, nodes, scaled}
use Rattle.poly_tree.specs.Tree.{expansion}
use Rattle.poly_tree.proofs.Made.{made-more}
use Rattle.poly_tree.proofs.Trees.{weight-below, nodes-below, scaled-over}
use Rattle.poly_tree.proofs.scale.+scale.Goals as goal

pub scale-requires : goal.scale-requires
scale-requires t c =
    let f = c.args.factor in
    let tree = expansion c.args.tree.now in
    let u = c.part-item.result in
    let fewer : nodes (expansion u) < nodes tree = nodes-below tree c.in-Over.var c.in-Over.parts.now c.loop-part.part-index u c.in-Over.ensures c.loop-part-test.true c.part-item.is in
    let lighter : weight (expansion u) ≤ weight tree = weight-below tree c.in-Over.var c.in-Over.parts.now c.loop-part.part-index u c.in-Over.ensures c.loop-part-test.true c.part-item.is in
    let product : unsigned_abs f * weight (expansion u) ≤ unsigned_abs f * weight tree = mul-le-mul_left (unsigned_abs f) lighter in
    let d : nodes (expansion u) < t = omega (arith, c.decreases) in
    (d, rw (to_z-of_z w128 f c.ranges.factor) (omega (arith, c.requires)))

pub returns-after-loop-part : goal.returns-after-loop-part
returns-after-loop-part t c =
    let f = c.args.factor in
    scaled-over f (expansion c.args.tree.now) c.in-Over.var c.loop-part.multiples c.in-Over.parts.now c.loop-part.part-index c.in-Over.ensures c.loop-part-test.false
    (subst (λ (g : ℤ). map expansion c.loop-part.multiples.items ≡ map (scaled g) (map expansion (take c.loop-part.part-index c.in-Over.parts.now))) (to_z-of_z w128 f c.ranges.factor) c.loop-part.invariant)

pub loop-part-preserved : goal.loop-part-preserved
loop-part-preserved t c =
    made-more (scaled (to_z w128 (of_z w128 c.args.factor))) c.push.new.self.items c.loop-part.multiples.items c.in-Over.parts.now c.loop-part.part-index c.in_ok-scale-in-Over.field-0 c.part-item.result
    c.loop-part-test.true c.part-item.is c.in_ok-scale-in-Over.ensures c.in_ok-push-in-Over.ensures.items c.loop-part.invariant
