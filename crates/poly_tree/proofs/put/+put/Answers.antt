use Rattle.std.proofs.Common.{◌≡◌, ◌≤◌, ◌<◌, ◌+◌, ◌*◌, ◌-◌, max, length, drop, arith, mul-le-mul_left}
use Rattle.poly_tree.specs.Expansion.{part, nodes, weight, growth, put_parts_weight}
use Rattle.poly_tree.specs.Tree.{expansion, parts_of}
use Rattle.poly_tree.proofs.PutLemmas.{put-part, put_weight-back}
use Rattle.poly_tree.proofs.Trees.{nodes-below, parts_of-back}
use Rattle.poly_tree.proofs.put.+put.Goals as goal

pub put-requires : goal.put-requires
put-requires t c =
    let tree = expansion c.args.tree.now in
    let parts = c.in-Over.parts.now in
    let k = length parts - 1 - c.loop-done.done in
    let u = c.index-parts-parts.result in
    let heavy = max 1 (weight (expansion c.args.inner.now)) in
    let within : k < length parts = omega (arith, c.loop-done-test.true) in
    let fewer : nodes (expansion u) < nodes tree = nodes-below tree c.in-Over.v parts k u c.in-Over.ensures within c.index-parts-parts.is in
    let d : nodes (expansion u) < t = omega (arith, c.decreases) in
    let back = put_weight-back c.args.var heavy tree c.in-Over.v parts c.loop-done.done u (omega arith) c.in-Over.ensures c.loop-done-test.true c.index-parts-parts.is in
    (d, omega (arith, back, c.requires))

pub raise_put-requires : goal.raise_put-requires
raise_put-requires t c =
    let tree = expansion c.args.tree.now in
    let parts = c.in-Over.parts.now in
    let u = c.index-parts-parts.result in
    let heavy = max 1 (weight (expansion c.args.inner.now)) in
    let k = growth c.args.var heavy c.in-Over.v in
    let back = put_weight-back c.args.var heavy tree c.in-Over.v parts c.loop-done.done u (omega arith) c.in-Over.ensures c.loop-done-test.true c.index-parts-parts.is in
    let le : k * weight (expansion c.loop-done.total) ≤ k * put_parts_weight c.args.var heavy k (parts_of (drop (length parts - c.loop-done.done) parts)) = mul-le-mul_left k c.loop-done.invariant.light in
    omega (arith, back, le, c.requires)

pub sum-requires : goal.sum-requires
sum-requires t c =
    let tree = expansion c.args.tree.now in
    let parts = c.in-Over.parts.now in
    let u = c.index-parts-parts.result in
    let heavy = max 1 (weight (expansion c.args.inner.now)) in
    let k = growth c.args.var heavy c.in-Over.v in
    let back = put_weight-back c.args.var heavy tree c.in-Over.v parts c.loop-done.done u (omega arith) c.in-Over.ensures c.loop-done-test.true c.index-parts-parts.is in
    let le : k * weight (expansion c.loop-done.total) ≤ k * put_parts_weight c.args.var heavy k (parts_of (drop (length parts - c.loop-done.done) parts)) = mul-le-mul_left k c.loop-done.invariant.light in
    omega (arith, back, le, c.requires, c.in_ok-part-in-Over.ensures.light, c.in_ok-raised-in-Over.ensures.light)

pub loop-done-preserved : goal.loop-done-preserved
loop-done-preserved t c =
    let v = c.in-Over.v in
    let parts = c.in-Over.parts.now in
    let u = c.index-parts-parts.result in
    let same : parts_of (drop (length parts - (c.loop-done.done + 1)) parts) ≡ part (expansion u) (parts_of (drop (length parts - c.loop-done.done) parts))
    = parts_of-back parts c.loop-done.done u c.loop-done-test.true c.index-parts-parts.is in
    rw same (put-part c.args.var (expansion c.args.inner.now) v (parts_of (drop (length parts - c.loop-done.done) parts)) (expansion u) (expansion c.in_ok-part-in-Over.part)
    (expansion c.in_ok-raised-in-Over.raised) (expansion c.loop-done.total) (expansion c.in_ok-total-in-Over.total)
    c.loop-done.invariant c.in_ok-part-in-Over.ensures c.in_ok-raised-in-Over.ensures c.in_ok-total-in-Over.ensures)
