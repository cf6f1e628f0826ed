use Rattle.std.proofs.Common.{◌≡◌, ℕ, ℤ, ◌*◌, ◌^◌, ◌<◌, ◌≤◌, min, max, pos, ◌≤ℤ◌, subst, sym, ◌∙◌, ap, arith, mul-le-mul_left}
use Rattle.std.specs.Prelude.{unsigned_abs}
use mir.Syntax.{w128}
use Rattle.std.proofs.lemmas.Int.{to_z-of_z, ints}
use Rattle.iolb_model.specs.declared.limits.TheConstants.{MEASURE}
use Rattle.poly_tree.specs.Expansion.{Expansion, number, over, IsCanonical}
use Rattle.poly_tree.specs.Poly.{IsReduced}
use Rattle.poly_tree.specs.Terms.{terms_of, terms_weight}
use Rattle.poly_tree.specs.Tree.{expansion}
use Rattle.poly_tree.proofs.TermLemmas.{terms-over}
use Rattle.poly_tree.proofs.TermNumbers.{no-greater}
use Rattle.poly_tree.proofs.poly.Poly.from_terms.Goals as goal

-- terms whose size fits are light, and are no larger than was found
room : (weight found most d size limit : ℕ) → found ≡ min weight limit → most ≡ max found 1 → size ≡ min (most * d) limit → size < limit → 1 ≤ d → (weight < limit) × (max 1 weight ≡ most)
room weight found most d size limit e f g small some =
    let larger : most * 1 ≤ most * d = mul-le-mul_left most some in
    let light : weight < limit = omega (arith, e, f, g, small, larger) in
    (light, omega (arith, e, f, light))

positive-size : (d : ℤ) → pos 1 ≤ℤ d → 1 ≤ unsigned_abs d
positive-size d h = omega (arith, ints, h)

wider : (t : Expansion) → IsCanonical 24 t → IsCanonical (2 ^ 16) t
wider (number n) c = tt
wider (over v ps) c = (omega (arith, c.0), c.1, c.2)

pub returns-clause-value : goal.returns-clause-value
returns-clause-value c =
    let t = expansion c.in_ok-tree.tree in
    let r = c.in_ok-reduced.field-0 in
    terms-over (terms_of c.args.terms.now) t (unsigned_abs c.args.den) r c.in_ok-tree.ensures
    (subst (λ (m : ℕ). IsReduced t m r) (ap unsigned_abs (to_z-of_z w128 c.args.den c.ranges.den)) c.in_ok-reduced.ensures.reduced)

pub returns-clause-within : goal.returns-clause-within
returns-clause-within c =
    let t = expansion c.in_ok-tree.tree in
    let r = c.in_ok-reduced.field-0 in
    no-greater (terms_of c.args.terms.now) t (unsigned_abs c.args.den) r c.requires.exponents c.requires.apart c.in_ok-tree.ensures
    (subst (λ (m : ℕ). IsReduced t m r) (ap unsigned_abs (to_z-of_z w128 c.args.den c.ranges.den)) c.in_ok-reduced.ensures.reduced)

pub sum_of_terms-requires : goal.sum_of_terms-requires
sum_of_terms-requires c =
    let d : 1 ≤ c.unsigned_abs.result = subst (λ (n : ℕ). 1 ≤ n) (sym (c.unsigned_abs.ensures.value ∙ ap unsigned_abs (to_z-of_z w128 c.args.den c.ranges.den))) (positive-size c.args.den c.requires.positive) in
    let fits = room (terms_weight (terms_of c.args.terms.now)) c.weight_of_terms.result c.max.result c.unsigned_abs.result c.capped_product-size.result MEASURE c.weight_of_terms.ensures c.max.ensures c.capped_product-size.ensures
    c.if-size-ge-MEASURE.false d in
    record { light = fits.0; exponents = c.requires.exponents }

pub reduced-requires : goal.reduced-requires
reduced-requires c = record {
  positive = rw (to_z-of_z w128 c.args.den c.ranges.den) c.requires.positive;
  canonical = wider (expansion c.in_ok-tree.tree) c.in_ok-tree.ensures.canonical;
  degrees = c.in_ok-tree.ensures.degrees;
}

pub returns-clause-legal : goal.returns-clause-legal
returns-clause-legal c = c.in_ok-reduced.ensures.legal

pub returns-clause-narrow : goal.returns-clause-narrow
returns-clause-narrow c = λ e.
    let is : c.unsigned_abs.result ≡ unsigned_abs c.args.den = c.unsigned_abs.ensures.value ∙ ap unsigned_abs (to_z-of_z w128 c.args.den c.ranges.den) in
    let d : 1 ≤ c.unsigned_abs.result = subst (λ (n : ℕ). 1 ≤ n) (sym is) (positive-size c.args.den c.requires.positive) in
    let fits = room (terms_weight (terms_of c.args.terms.now)) c.weight_of_terms.result c.max.result c.unsigned_abs.result c.capped_product-size.result MEASURE c.weight_of_terms.ensures c.max.ensures c.capped_product-size.ensures
    c.if-size-ge-MEASURE.false d in
    let small : c.max.result * c.unsigned_abs.result < MEASURE = omega (arith, c.capped_product-size.ensures, c.if-size-ge-MEASURE.false) in
    subst (λ (k : ℕ). max 1 (terms_weight (terms_of c.args.terms.now)) * k < MEASURE) is (subst (λ (m : ℕ). m * c.unsigned_abs.result < MEASURE) (sym fits.1) small)

pub returns-clause-wide : goal.returns-clause-wide
returns-clause-wide c = λ e. absurd cc
