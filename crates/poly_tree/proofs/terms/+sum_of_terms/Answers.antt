use Rattle.std.proofs.Common.{◌≡◌, ◌+◌, ◌<◌, ◌≤◌, ◌/◌, ℕ, List, length, sym, subst, arith, FitsSigned, rules}
use mir.Syntax.{w128}
use Rattle.std.proofs.lemmas.Int.{to_z-of_z}
use Rattle.iolb_model.specs.Polynomial.{Term}
use Rattle.poly_tree.specs.Expansion.{IsMonomial, IsSum}
use Rattle.poly_tree.specs.Terms.{IsTermsSum, terms_of}
use Rattle.poly_tree.specs.Tree.{expansion}
use Rattle.poly_tree.specs.declared.tree.Tree.{Tree}
use Rattle.poly_tree.proofs.Products.{IfOk-map}
use Rattle.poly_tree.proofs.TermLemmas.{parts-of_terms, some-terms, terms-both, terms-one}
use Rattle.poly_tree.proofs.terms.+sum_of_terms.Goals as goal

pub returns-then-terms-eq1 : goal.returns-then-terms-eq1
returns-then-terms-eq1 t c =
    let x = c.in-Some.field-0.now in
    let fits : FitsSigned w128 x.0 = search rules in
    IfOk-map (λ (m : Tree). IsMonomial x.0 c.as_slice.result.now (expansion m)) (λ (m : Tree). IsTermsSum (terms_of c.args.terms.now) 24 (expansion m)) c.monomial.result
    (λ m is. terms-one c.args.terms.now x (expansion m) c.if-terms-eq1.true c.in-Some.ensures.value c.requires.exponents
    (subst (λ (es : List ℕ). IsMonomial x.0 es (expansion m)) c.as_slice.ensures.value is))
    (simp (to_z-of_z w128 x.0 fits) at c.monomial.ensures)

half : (n front back : ℕ) → (n ≡ 1 → ⊥) → 1 ≤ n → front ≡ n / 2 → back + n / 2 ≡ n → (front < n) × (back < n)
half n front back p q e f = (grind arith, grind arith)

pub sum_of_terms-requires : goal.sum_of_terms-requires
sum_of_terms-requires t c =
    let terms = c.args.terms.now in
    let parts = parts-of_terms terms c.split_at.result.0.now c.split_at.result.1.now (length terms / 2) c.split_at.ensures.front c.split_at.ensures.back c.requires.exponents in
    let less = half (length terms) (length c.split_at.result.0.now) (length c.split_at.result.1.now) c.if-terms-eq1.false (some-terms terms c.in-Some.field-0.now c.in-Some.ensures.value) c.split_at.ensures.front_len c.split_at.ensures.back_len in
    let falls : length c.split_at.result.0.now < t = omega (arith, c.decreases, less.0) in
    (falls, (omega (arith, parts.weights, c.requires.light), parts.first))

pub sum_of_terms-requires-2 : goal.sum_of_terms-requires-2
sum_of_terms-requires-2 t c =
    let terms = c.args.terms.now in
    let parts = parts-of_terms terms c.split_at.result.0.now c.split_at.result.1.now (length terms / 2) c.split_at.ensures.front c.split_at.ensures.back c.requires.exponents in
    let less = half (length terms) (length c.split_at.result.0.now) (length c.split_at.result.1.now) c.if-terms-eq1.false (some-terms terms c.in-Some.field-0.now c.in-Some.ensures.value) c.split_at.ensures.front_len c.split_at.ensures.back_len in
    let falls : length c.split_at.result.1.now < t = omega (arith, c.decreases, less.1) in
    (falls, (omega (arith, parts.weights, c.requires.light), parts.second))

pub sum-requires : goal.sum-requires
sum-requires t c =
    let parts = parts-of_terms c.args.terms.now c.split_at.result.0.now c.split_at.result.1.now (length c.args.terms.now / 2) c.split_at.ensures.front c.split_at.ensures.back c.requires.exponents in
    omega (arith, parts.weights, c.requires.light, c.in_ok-first.ensures.light, c.in_ok-second.ensures.light)

pub returns : goal.returns
returns t c =
    let front = terms_of c.split_at.result.0.now in
    let back = terms_of c.split_at.result.1.now in
    let parts = parts-of_terms c.args.terms.now c.split_at.result.0.now c.split_at.result.1.now (length c.args.terms.now / 2) c.split_at.ensures.front c.split_at.ensures.back c.requires.exponents in
    IfOk-map (λ (s : Tree). IsSum (expansion c.in_ok-first.first) (expansion c.in_ok-second.second) (expansion s)) (λ (s : Tree). IsTermsSum (terms_of c.args.terms.now) 24 (expansion s)) c.sum.result
    (λ s is. subst (λ (ts : List Term). IsTermsSum ts 24 (expansion s)) (sym parts.whole)
    (terms-both front back (expansion c.in_ok-first.first) (expansion c.in_ok-second.second) (expansion s) c.in_ok-first.ensures c.in_ok-second.ensures is)) c.sum.ensures
