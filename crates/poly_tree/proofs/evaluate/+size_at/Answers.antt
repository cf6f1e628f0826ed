use Rattle.std.proofs.Common.{◌≡◌, ◌<◌, ◌≤◌, ◌*◌, ◌+◌, ◌-◌, ℕ, min, length, drop, arith, sym, ap, ◌∙◌}
use Rattle.poly_tree.specs.Expansion.{Parts, part, nodes, at, size_at, parts_size_at}
use Rattle.poly_tree.specs.Tree.{expansion, parts_of}
use Rattle.poly_tree.proofs.EvaluateLemmas.{size-step, canonical-read}
use Rattle.poly_tree.proofs.Trees.{nodes-below, parts_of-back}
use Rattle.poly_tree.proofs.evaluate.+size_at.Goals as goal
use Rattle.iolb_model.specs.declared.limits.TheConstants.{MEASURE}

pub size_at-part-requires : goal.size_at-part-requires
size_at-part-requires t c =
    let tree = expansion c.args.tree.now in
    let parts = c.in-Over.parts.now in
    let k = length parts - 1 - c.loop-done.done in
    let u = c.index-parts-parts.result in
    let within : k < length parts = omega (arith, c.loop-done-test.true) in
    let fewer : nodes (expansion u) < nodes tree = nodes-below tree c.in-Over.v parts k u c.in-Over.ensures within c.index-parts-parts.is in
    let d : nodes (expansion u) < t = omega (arith, c.decreases) in
    (d, canonical-read (length c.args.point.now) tree c.in-Over.v parts k u c.in-Over.ensures within c.index-parts-parts.is c.requires)

pub loop-done-preserved : goal.loop-done-preserved
loop-done-preserved t c =
    let parts = c.in-Over.parts.now in
    let u = c.index-parts-parts.result in
    let p = at c.args.point.now in
    let base = c.max-base.result in
    let rest = parts_of (drop (length parts - c.loop-done.done) parts) in
    let limit = MEASURE in
    let some : 1 ≤ base = omega (arith, c.max-base.ensures) in
    let same : parts_of (drop (length parts - (c.loop-done.done + 1)) parts) ≡ part (expansion u) rest = parts_of-back parts c.loop-done.done u c.loop-done-test.true c.index-parts-parts.is in
    c.min-total.ensures
    ∙ size-step (size_at (expansion u) p) (parts_size_at rest base p) base limit c.size_at-part.result c.capped_product.result some c.size_at-part.ensures
    (c.capped_product.ensures ∙ ap (λ (n : ℕ). min (n * base) limit) c.loop-done.invariant)
    ∙ ap (λ (ps : Parts). min (parts_size_at ps base p) limit) (sym same)
