use Rattle.std.proofs.Common.{◌<◌, ◌*◌, ◌^◌, ℕ, ap, ◌∙◌, subst, arith, inr, lit≤, FitsSigned, rules}
use mir.Syntax.{w128}
use Rattle.std.proofs.lemmas.Int.{to_z-of_z}
use Rattle.std.specs.Prelude.{unsigned_abs}
use Rattle.poly_tree.specs.Expansion.{Expansion, at, weight, IsProduct}
use Rattle.poly_tree.specs.Poly.{size, IsReduced}
use Rattle.poly_tree.specs.Tree.{expansion}
use Rattle.poly_tree.proofs.LinearLemmas.{below-cap, weight-room, denominator-room, product-value}
use Rattle.poly_tree.proofs.poly.Poly.mul.Goals as goal
use Rattle.iolb_model.specs.declared.limits.TheConstants.{MEASURE}

pub mul-requires : goal.mul-requires
mul-requires c =
    let a = c.args.self.now in
    let b = c.args.other.now in
    let small : size a * size b < MEASURE = below-cap (size a * size b) c.size_product.result MEASURE MEASURE c.size_product.ensures c.if-size_product-ge-MEASURE.false (lit≤ tt) in
    let room : weight a.tree * weight b.tree < MEASURE = weight-room (weight a.tree) (weight b.tree) a.denominator b.denominator MEASURE c.tree.ensures.legal.positive c.tree-2.ensures.legal.positive small in
    rw (c.tree.ensures.tree, c.tree-2.ensures.tree) (omega arith)

pub common_denominator-requires : goal.common_denominator-requires
common_denominator-requires c =
    let a = c.args.self.now in
    let b = c.args.other.now in
    let small : size a * size b < MEASURE = below-cap (size a * size b) c.size_product.result MEASURE MEASURE c.size_product.ensures c.if-size_product-ge-MEASURE.false (lit≤ tt) in
    let room : a.denominator * b.denominator < MEASURE = denominator-room (weight a.tree) (weight b.tree) a.denominator b.denominator MEASURE small in
    omega arith

pub returns-then-not-degrees_fit-clause-wide : goal.returns-then-not-degrees_fit-clause-wide
returns-then-not-degrees_fit-clause-wide c = λ e.
    let t = expansion c.in_ok-tree.tree in
    let product : IsProduct c.args.self.now.tree c.args.other.now.tree t
    = subst (λ (u : Expansion). IsProduct u c.args.other.now.tree t) c.tree.ensures.tree
    (subst (λ (u : Expansion). IsProduct (expansion c.tree.result.now) u t) c.tree-2.ensures.tree c.in_ok-tree.ensures) in
    inr (t, (product.canonical (2 ^ 16) c.tree.ensures.legal.canonical c.tree-2.ensures.legal.canonical, λ point. product.product (at point), λ h. let yes = c.degrees_fit.ensures.1 h in let no = c.if-not-degrees_fit.true in cc))

pub returns-clause-value : goal.returns-clause-value
returns-clause-value c =
    let a = c.args.self.now in
    let b = c.args.other.now in
    let t = expansion c.in_ok-tree.tree in
    let r = c.in_ok-reduced.field-0 in
    let product : IsProduct a.tree b.tree t
    = subst (λ (u : Expansion). IsProduct u b.tree t) c.tree.ensures.tree
    (subst (λ (u : Expansion). IsProduct (expansion c.tree.result.now) u t) c.tree-2.ensures.tree c.in_ok-tree.ensures) in
    let fits_d : FitsSigned w128 c.common_denominator.result = search rules in
    let n : IsReduced t (a.denominator * b.denominator) r
    = subst (λ (m : ℕ). IsReduced t m r) (ap unsigned_abs (to_z-of_z w128 c.common_denominator.result fits_d ∙ c.common_denominator.ensures.product)) c.in_ok-reduced.ensures.reduced in
    product-value a b r t product n

pub reduced-requires : goal.reduced-requires
reduced-requires c =
    let t = expansion c.in_ok-tree.tree in
    let product : IsProduct c.args.self.now.tree c.args.other.now.tree t
    = subst (λ (u : Expansion). IsProduct u c.args.other.now.tree t) c.tree.ensures.tree
    (subst (λ (u : Expansion). IsProduct (expansion c.tree.result.now) u t) c.tree-2.ensures.tree c.in_ok-tree.ensures) in
    let fits_d : FitsSigned w128 c.common_denominator.result = search rules in record {
      positive = rw (to_z-of_z w128 c.common_denominator.result fits_d) c.common_denominator.ensures.positive;
      canonical = product.canonical (2 ^ 16) c.tree.ensures.legal.canonical c.tree-2.ensures.legal.canonical;
      degrees = c.degrees_fit.ensures.0 c.if-not-degrees_fit.false;
    }

pub returns-clause-narrow : goal.returns-clause-narrow
returns-clause-narrow c = λ e.
    below-cap (size c.args.self.now * size c.args.other.now) c.size_product.result MEASURE MEASURE c.size_product.ensures c.if-size_product-ge-MEASURE.false (lit≤ tt)

pub returns-clause-wide : goal.returns-clause-wide
returns-clause-wide c = λ e. absurd cc
