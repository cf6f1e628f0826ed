use Rattle.std.proofs.Common.{◌≡◌, ◌<◌, ◌+◌, ◌-◌, ◌+ℤ◌, ◌*ℤ◌, ℤ, pos, length, get_or, drop, arith, rules, sym, ap, ◌∙◌, FitsSigned, to_z}
use mir.Syntax.{w128}
use Rattle.std.proofs.lemmas.Int.{to_z-of_z}
use Rattle.poly_tree.specs.Expansion.{Parts, part, nodes, at, value, parts_value}
use Rattle.poly_tree.specs.Tree.{expansion, parts_of}
use Rattle.poly_tree.proofs.EvaluateLemmas.{canonical-read, variable-below, size_at-back, horner-room, at-read}
use Rattle.poly_tree.proofs.Trees.{nodes-below, parts_of-back}
use Rattle.poly_tree.proofs.evaluate.+value_at.Goals as goal

pub value_at-part-requires : goal.value_at-part-requires
value_at-part-requires t c =
    let tree = expansion c.args.tree.now in
    let parts = c.in-Over.parts.now in
    let k = length parts - 1 - c.loop-done.done in
    let u = c.index-parts-parts.result in
    let within : k < length parts = omega (arith, c.loop-done-test.true) in
    let fewer : nodes (expansion u) < nodes tree = nodes-below tree c.in-Over.v parts k u c.in-Over.ensures within c.index-parts-parts.is in
    let d : nodes (expansion u) < t = omega (arith, c.decreases) in
    let back = size_at-back tree c.in-Over.v parts c.loop-done.done u (at c.args.point.now) c.in-Over.ensures c.loop-done-test.true c.index-parts-parts.is in
    (d, (canonical-read (length c.args.point.now) tree c.in-Over.v parts k u c.in-Over.ensures within c.index-parts-parts.is c.requires.canonical, omega (arith, back, c.requires.small)))

pub add_product-total-requires : goal.add_product-total-requires
add_product-total-requires t c =
    let tree = expansion c.args.tree.now in
    let v = c.in-Over.v in
    let parts = c.in-Over.parts.now in
    let point = c.args.point.now in
    let a = c.value_at-part.result in
    let x = get_or point c.from.result (pos 0) in
    let fits_a : FitsSigned w128 a = search rules in
    let fits_x : FitsSigned w128 x = search rules in
    let read : x ≡ at point v = at-read point v c.from.result c.from.ensures (variable-below (length point) tree v (parts_of parts) c.in-Over.ensures c.requires.canonical) in
    rw (to_z-of_z w128 a fits_a, to_z-of_z w128 x fits_x)
    (horner-room tree v parts c.loop-done.done c.index-parts-parts.result (at point) a x (to_z w128 c.loop-done.total-bits) c.in-Over.ensures c.loop-done-test.true c.index-parts-parts.is
    c.value_at-part.ensures read c.loop-done.invariant c.requires.small)

pub loop-done-preserved : goal.loop-done-preserved
loop-done-preserved t c =
    let tree = expansion c.args.tree.now in
    let v = c.in-Over.v in
    let parts = c.in-Over.parts.now in
    let point = c.args.point.now in
    let u = c.index-parts-parts.result in
    let a = c.value_at-part.result in
    let x = get_or point c.from.result (pos 0) in
    let z = c.add_product-total.result in
    let sum = to_z w128 c.loop-done.total-bits in
    let fits_a : FitsSigned w128 a = search rules in
    let fits_x : FitsSigned w128 x = search rules in
    let fits_z : FitsSigned w128 z = search rules in
    let read : x ≡ at point v = at-read point v c.from.result c.from.ensures (variable-below (length point) tree v (parts_of parts) c.in-Over.ensures c.requires.canonical) in
    let rest = parts_of (drop (length parts - c.loop-done.done) parts) in
    let same : parts_of (drop (length parts - (c.loop-done.done + 1)) parts) ≡ part (expansion u) rest = parts_of-back parts c.loop-done.done u c.loop-done-test.true c.index-parts-parts.is in
    let is : z ≡ a +ℤ (x *ℤ sum) = simp (to_z-of_z w128 a fits_a, to_z-of_z w128 x fits_x) at c.add_product-total.ensures in
    to_z-of_z w128 z fits_z ∙ is
    ∙ ap (λ (y : ℤ). y +ℤ (x *ℤ sum)) c.value_at-part.ensures
    ∙ ap (λ (y : ℤ). value (expansion u) (at point) +ℤ (y *ℤ sum)) read
    ∙ ap (λ (y : ℤ). value (expansion u) (at point) +ℤ (at point v *ℤ y)) c.loop-done.invariant
    ∙ ap (λ (ps : Parts). parts_value ps (at point v) (at point)) (sym same)
