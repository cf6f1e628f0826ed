use Rattle.std.proofs.Common.{◌<◌, ◌*◌, ◌+◌, ℕ, ap, ◌∙◌, subst, arith, lit≤, pos, FitsSigned, rules}
use Rattle.std.specs.Prelude.{unsigned_abs}
use mir.Syntax.{w128}
use Rattle.std.proofs.lemmas.Int.{to_z-of_z}
use Rattle.poly_tree.specs.Expansion.{weight, IsLinear}
use Rattle.poly_tree.specs.Poly.{size, IsReduced}
use Rattle.poly_tree.specs.Tree.{expansion}
use Rattle.poly_tree.proofs.LinearLemmas.{below-cap, linear-room, denominator-room, combination-value}
use Rattle.poly_tree.proofs.poly.combined.Goals as goal
use Rattle.iolb_model.specs.declared.limits.TheConstants.{MEASURE, SUM_MEASURE}

pub linear-requires-clause-light : goal.linear-requires-clause-light
linear-requires-clause-light c =
    let a = c.args.a.now in
    let b = c.args.b.now in
    let small : size a * size b < SUM_MEASURE = below-cap (size a * size b) c.size_product.result MEASURE SUM_MEASURE c.size_product.ensures c.if-size_product-ge-SUM_MEASURE.false (lit≤ tt) in
    let room : b.denominator * weight a.tree + a.denominator * weight b.tree < SUM_MEASURE + SUM_MEASURE
    = linear-room (weight a.tree) (weight b.tree) a.denominator b.denominator SUM_MEASURE c.tree.ensures.legal.positive c.tree-2.ensures.legal.positive small in
    let fits : FitsSigned w128 c.den.result = search rules in
    rw (to_z-of_z w128 c.den.result fits, to_z-of_z w128 c.args.factor c.ranges.factor, c.den.ensures.denominator, c.tree.ensures.tree, c.tree-2.ensures.tree, c.requires) (omega arith)

pub common_denominator-requires : goal.common_denominator-requires
common_denominator-requires c =
    let a = c.args.a.now in
    let b = c.args.b.now in
    let small : size a * size b < SUM_MEASURE = below-cap (size a * size b) c.size_product.result MEASURE SUM_MEASURE c.size_product.ensures c.if-size_product-ge-SUM_MEASURE.false (lit≤ tt) in
    let room : a.denominator * b.denominator < SUM_MEASURE = denominator-room (weight a.tree) (weight b.tree) a.denominator b.denominator SUM_MEASURE small in
    omega arith

pub returns-clause-value : goal.returns-clause-value
returns-clause-value c =
    let a = c.args.a.now in
    let b = c.args.b.now in
    let t = expansion c.in_ok-tree.tree in
    let r = c.in_ok-reduced.field-0 in
    let fits : FitsSigned w128 c.den.result = search rules in
    let fits_d : FitsSigned w128 c.common_denominator.result = search rules in
    let plain : IsLinear c.den.result (expansion c.tree.result.now) c.args.factor (expansion c.tree-2.result.now) t
    = simp (to_z-of_z w128 c.den.result fits, to_z-of_z w128 c.args.factor c.ranges.factor) at c.in_ok-tree.ensures in
    let l : IsLinear (pos b.denominator) a.tree c.args.factor b.tree t
    = simp (c.den.ensures.denominator, c.tree.ensures.tree, c.tree-2.ensures.tree) at plain in
    let n : IsReduced t (a.denominator * b.denominator) r
    = subst (λ (m : ℕ). IsReduced t m r) (ap unsigned_abs (to_z-of_z w128 c.common_denominator.result fits_d ∙ c.common_denominator.ensures.product)) c.in_ok-reduced.ensures.reduced in
    combination-value a b r c.args.factor t l n
