use Rattle.std.proofs.Common.{◌≡◌, ◌≢◌, ap, pos, refl, subst, IfOk, ℤ, of_z, to_z, sym, ◌∙◌}
use Rattle.std.proofs.lemmas.Int.{to_z-of_z}
use mir.Syntax.{w128}
use Rattle.poly_tree.specs.declared.tree.Tree.{Tree}
use Rattle.poly_tree.specs.Expansion.{IsProduct, number, scaled}
use Rattle.poly_tree.specs.Tree.{expansion}
use Rattle.poly_tree.proofs.Products.{product-number, IfOk-map}
use Rattle.poly_tree.specs.declared.tree.Tree.TheVariants.{Num}
use Rattle.poly_tree.proofs.Made.{zero-product}
use Rattle.poly_tree.proofs.Trees.{expansion-Num}
use Rattle.poly_tree.proofs.mul.mul_number.Goals as goal

pub returns : goal.returns
returns c =
    let n = c.args.a in
    let b = expansion c.args.b.now in
    let nonzero : n ≢ pos 0 = λ e. c.if-a-eq0.false (ap (of_z w128) e) in
    IfOk-map (λ (t : Tree). expansion t ≡ scaled n b) (λ (t : Tree). IsProduct (number n) b (expansion t)) c.scale.result
    (λ t e. product-number n (number n) b (expansion t) nonzero refl e)
    (subst (λ (k : ℤ). IfOk c.scale.result (λ (t : Tree). expansion t ≡ scaled k b)) (to_z-of_z w128 n c.ranges.a) c.scale.ensures)

pub returns-then-a-eq0 : goal.returns-then-a-eq0
returns-then-a-eq0 c =
    let zero : c.args.a ≡ pos 0 = sym (to_z-of_z w128 c.args.a c.ranges.a) ∙ ap (to_z w128) c.if-a-eq0.true in
    zero-product c.args.a (expansion c.args.b.now) (expansion (Num (pos 0))) zero (expansion-Num (pos 0))
