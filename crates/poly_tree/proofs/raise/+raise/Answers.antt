use Rattle.std.proofs.Common.{◌≡◌, ◌<◌, length, arith, sym, ◌∙◌, subst, ℕ}
use Rattle.std.proofs.lemmas.List.{length-map}
use Rattle.poly_tree.specs.Expansion.{nodes}
use Rattle.poly_tree.specs.Tree.{expansion, expansions}
use Rattle.poly_tree.proofs.Products.{raised-over}
use Rattle.poly_tree.proofs.Trees.{nodes-below}
use Rattle.poly_tree.proofs.raise.+raise.Goals as goal

pub raise-requires : goal.raise-requires
raise-requires t c =
    let tree = expansion c.args.tree.now in
    let u = c.part-item.result in
    let fewer : nodes (expansion u) < nodes tree = nodes-below tree c.in-Over.v c.in-Over.parts.now c.loop-part.part-index u c.in-Over.ensures c.loop-part-test.true c.part-item.is in
    let d : nodes (expansion u) < t = omega (arith, c.decreases) in
    (d, tt)

pub returns-after-loop-part : goal.returns-after-loop-part
returns-after-loop-part t c =
    let xs = expansions c.in-Over.parts.now in
    let ys = expansions c.loop-part.raised.items in
    let left : length xs ≡ c.loop-part.part-index = omega (arith, length-map c.in-Over.parts.now expansion, c.loop-part-test.false, c.loop-part.auto.part-index-end) in
    let right : length ys ≡ c.loop-part.part-index = length-map c.loop-part.raised.items expansion ∙ c.loop-part.invariant.count in
    raised-over c.in-Over.v c.args.var (expansion c.args.tree.now) (expansion c.join.result) xs ys c.in-Over.ensures c.if-v-var.true (left ∙ sym right)
    (λ k p. c.loop-part.invariant.parts k (subst (λ (n : ℕ). k < n) left p)) c.join.ensures
