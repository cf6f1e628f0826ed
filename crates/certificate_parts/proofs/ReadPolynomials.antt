-- Polynomials that are written, read.
use Rattle.std.proofs.Common.{◌≡◌, ◌≢◌, ℕ, suc, ◌-◌, ◌<◌, ◌≤◌, true, false, not, List, [], ◌∷◌, ◌++◌, length, map, append_assoc, Ok, refl, sym, subst, ap, arith}
use Rattle.std.proofs.Math.IntN.{ℤ, pos, negsuc, ◌*ℤ◌}
use Rattle.std.specs.Prelude.{unsigned_abs, bytes_eq, ◌==◌}
use Rattle.std.specs.List.{AllByRecursion}
use Rattle.std.proofs.lemmas.Bool.{lt-ltb, ne_eqb, false_from_ne_true}
use Rattle.std.proofs.lemmas.List.{length-map}
use Rattle.std.proofs.lemmas.Slice.Eq.{bytes_eq-Decides}
use Rattle.iolb_model.specs.Polynomial.{Term}
use Rattle.affine_form.specs.Form.{IsSmall}
use Rattle.poly_tree.specs.Poly.{Quotient, IsLegal}
use Rattle.poly_tree.specs.Terms.{HasExponents, AreApart, terms_size}
use Rattle.poly_tree.specs.Printed.{AreNonzero, AreWritten, written_terms}
use Rattle.certificate_fit.specs.Limits.{IsSmallPolynomial}
use Rattle.json_parts.specs.Json.{has_keys, with_keys, reads_natural}
use Rattle.certificate_parts.specs.Polynomials.{reads_coefficient, term_in, reads_term, stands_apart, reads_term_behind, terms_from, reads_terms, reads_quotient, reads_polynomial, term_data, written_polynomial, IsPolynomial, polynomial_shape}
use Rattle.json_parts.specs.Shape.{IsReadBack}
use Rattle.json_parts.specs.Written.{whole, natural}
use Rattle.json_parts.proofs.Back.{integer-read, natural_read, list-read, short_list-read, each-read}
use Rattle.iolb_model.specs.declared.limits.TheConstants.{COEFFICIENT_SIZE, MEASURE}

some-size : (z : ℤ) → z ≢ pos 0 → (unsigned_abs z == 0) ≡ false
some-size z h = ne_eqb (unsigned_abs z) 0 (λ e. h (none z e)) where
  none : (y : ℤ) → unsigned_abs y ≡ 0 → y ≡ pos 0
  none (pos n) e = ap pos e
  none (negsuc n) e = absurd (omega arith)

coefficient-read : (z : ℤ) → IsSmall COEFFICIENT_SIZE z → z ≢ pos 0 → reads_coefficient (whole z) ≡ Ok z
unfolding reads_coefficient
coefficient-read z small some = rw (integer-read COEFFICIENT_SIZE z small, some-size z some) refl

exponents-read : (es : List ℕ) → AllByRecursion (λ e. e ≤ 8) es → AllByRecursion (λ e. reads_natural 0 8 (natural e) ≡ Ok e) es
exponents-read [] h = tt
exponents-read (e ∷ es) h = (natural_read 0 8 e (omega arith) h.0, exponents-read es h.1)

term-read : (term : Term) → IsSmall COEFFICIENT_SIZE term.coefficient → term.coefficient ≢ pos 0 → HasExponents term → reads_term (term_data term) ≡ Ok term
unfolding reads_term term_in
term-read term small some fit =
    let few : length (whole term.coefficient ∷ map natural term.exponents) ≤ 25 = omega (arith, fit.0, length-map term.exponents natural) in
    rw (
      short_list-read 25 (whole term.coefficient ∷ map natural term.exponents) few,
      coefficient-read term.coefficient small some,
      each-read (reads_natural 0 8) natural 1 term.exponents (exponents-read term.exponents fit.1),
    ) refl

-- terms that are apart from a later one
differs : (es fs : List ℕ) → (fs ≡ es → ⊥) → not (bytes_eq es fs) ≡ true
differs es fs h = ap not (false_from_ne_true (bytes_eq es fs) (λ e. h (sym ((bytes_eq-Decides es fs).0 e))))

apart-from : (earlier : List Term) (term : Term) (later : List Term) → AreApart (earlier ++ term ∷ later) → stands_apart earlier term.exponents ≡ true
apart-from [] term later h = refl
apart-from (t ∷ earlier) term later h =
    let one = middle earlier term later h.0 in
    rw (same (length term.exponents) (length t.exponents) one.0, differs t.exponents term.exponents one.1) (apart-from earlier term later h.1) where
      same : (m n : ℕ) → m ≡ n → (n == m) ≡ true
      same m n e = grind arith

      middle : (front : List Term) (s : Term) (back : List Term) → AllByRecursion (λ (later : Term). (length later.exponents ≡ length t.exponents) × (later.exponents ≡ t.exponents → ⊥)) (front ++ s ∷ back)
          → (length s.exponents ≡ length t.exponents) × (s.exponents ≡ t.exponents → ⊥)
      middle [] s back k = k.0
      middle (u ∷ front) s back k = middle front s back k.1

terms-behind : (i : ℕ) (earlier terms : List Term) → AllByRecursion (λ (term : Term). IsSmall COEFFICIENT_SIZE term.coefficient) terms → AreNonzero terms → AllByRecursion HasExponents terms
    → AreApart (earlier ++ terms) → terms_from i earlier (map term_data terms) ≡ Ok terms
unfolding terms_from reads_term_behind
terms-behind i earlier [] small some fit apart = refl
terms-behind i earlier (term ∷ terms) small some fit apart =
    rw (
      term-read term small.0 some.0 fit.0,
      apart-from earlier term terms apart,
      terms-behind (suc i) (earlier ++ term ∷ []) terms small.1 some.1 fit.1 (subst AreApart (sym (append_assoc earlier (term ∷ []) terms)) apart),
    ) refl

pub polynomial-read : (q : Quotient) → IsSmallPolynomial q → 1 ≤ q.denominator → AreWritten q → IsReadBack polynomial_shape (written_polynomial q)
unfolding reads_polynomial reads_quotient with_keys has_keys reads_terms
polynomial-read q small some written =
    let terms : List Term = written_terms q in
    let coefficients = written.small COEFFICIENT_SIZE small.numbers in
    let light : terms_size terms q.denominator < MEASURE = omega (arith, written.light, small.light) in
    rw (
      natural_read 1 (COEFFICIENT_SIZE - 1) q.denominator some (omega (arith, small.over)),
      list-read (map term_data terms),
      terms-behind 0 [] terms coefficients written.nonzero (written.fit small.variables) written.apart,
      lt-ltb (terms_size terms q.denominator) MEASURE light,
    ) refl

pub polynomial-is : (q : Quotient) → IsSmallPolynomial q → IsLegal q → AreWritten q → IsPolynomial (written_polynomial q) q
polynomial-is q small legal written = record {
  value = λ point. ap (λ (z : ℤ). z *ℤ pos q.denominator) (sym (written.value point));
  legal = legal;
  within = written.within small.variables;
}
