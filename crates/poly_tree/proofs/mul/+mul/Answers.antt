use Rattle.std.proofs.Common.{◌≡◌, ◌≤◌, ◌<◌, ◌+◌, ◌*◌, ◌-◌, ◌^◌, length, drop, arith, mul-le-mul_right}
use Rattle.poly_tree.specs.Expansion.{part, nodes, weight, parts_weight}
use Rattle.poly_tree.specs.Tree.{expansion, parts_of}
use Rattle.poly_tree.proofs.Products.{product-part, product-room}
use Rattle.poly_tree.proofs.Trees.{nodes-below, weight-below, parts_of-back, weight-back}
use Rattle.poly_tree.proofs.mul.+mul.Goals as goal

pub mul-requires : goal.mul-requires
mul-requires t c =
    let tree = expansion c.args.a.now in
    let parts = c.in-Over.parts.now in
    let k = length parts - 1 - c.loop-done.done in
    let u = c.index-parts-parts.result in
    let within : k < length parts = omega (arith, c.loop-done-test.true) in
    let fewer : nodes (expansion u) < nodes tree = nodes-below tree c.in-Over.var parts k u c.in-Over.ensures within c.index-parts-parts.is in
    let lighter : weight (expansion u) ≤ weight tree = weight-below tree c.in-Over.var parts k u c.in-Over.ensures within c.index-parts-parts.is in
    let product : weight (expansion u) * weight (expansion c.args.b.now) ≤ weight tree * weight (expansion c.args.b.now) = mul-le-mul_right (weight (expansion c.args.b.now)) lighter in
    let d : nodes (expansion u) < t = omega (arith, c.decreases) in
    (d, omega (arith, c.requires))

pub sum-requires : goal.sum-requires
sum-requires t c =
    let parts = c.in-Over.parts.now in
    let u = c.index-parts-parts.result in
    let whole : weight (expansion u) + parts_weight (parts_of (drop (length parts - c.loop-done.done) parts)) ≤ weight (expansion c.args.a.now)
    = weight-back (expansion c.args.a.now) c.in-Over.var parts c.loop-done.done u c.in-Over.ensures c.loop-done-test.true c.index-parts-parts.is in
    product-room (weight (expansion u)) (parts_weight (parts_of (drop (length parts - c.loop-done.done) parts))) (weight (expansion c.args.a.now)) (weight (expansion c.args.b.now))
    (weight (expansion c.in_ok-product-in-Over.product)) (weight (expansion c.in_ok-raised-in-Over.raised)) (2 ^ 127)
    c.in_ok-product-in-Over.ensures.light (omega (arith, c.in_ok-raised-in-Over.ensures.light, c.loop-done.invariant.light)) whole c.requires

pub loop-done-preserved : goal.loop-done-preserved
loop-done-preserved t c =
    let v = c.in-Over.var in
    let parts = c.in-Over.parts.now in
    let u = c.index-parts-parts.result in
    let same : parts_of (drop (length parts - (c.loop-done.done + 1)) parts) ≡ part (expansion u) (parts_of (drop (length parts - c.loop-done.done) parts))
    = parts_of-back parts c.loop-done.done u c.loop-done-test.true c.index-parts-parts.is in
    rw same (product-part v (parts_of (drop (length parts - c.loop-done.done) parts)) (expansion u) (expansion c.args.b.now) (expansion c.in_ok-product-in-Over.product)
    (expansion c.in_ok-raised-in-Over.raised) (expansion c.loop-done.total) (expansion c.in_ok-total-in-Over.total)
    c.loop-done.invariant c.in_ok-product-in-Over.ensures c.in_ok-raised-in-Over.ensures c.in_ok-total-in-Over.ensures)
