-- Polynomials without common factors.
use Rattle.std.proofs.Common.{◌≡◌, ℕ, zero, suc, ◌*◌, ◌≤◌, ◌^◌, arith, subst, sym, refl, ◌∙◌, ap}
use Rattle.std.proofs.Math.IntN.{ℤ, pos, negsuc, ◌*ℤ◌}
use Rattle.std.proofs.Math.Nat.{mul-dvd-mul_left, dvd_of_mul-dvd-mul_left, one-dvd}
use Rattle.std.specs.Prelude.{unsigned_abs}
use Rattle.std.specs.Int.{◌∣◌}
use lib.Signed.{◌≤ℤ◌}
use Rattle.std.proofs.lemmas.Int.{ints, unsigned_abs-mul}
use Rattle.std.proofs.lemmas.Nat.Gcd.{dvd_antisymm}
use Rattle.base_laws.proofs.Ring.{mul-zero}
use Rattle.poly_tree.specs.Expansion.{Expansion, Parts, number, over, none, part, scaled, parts_scaled, parts_count, IsCanonical, AreCanonical, HasTop, LastNonzero, DegreesAtMost, PartsDegreesAtMost, DividesAll, DividesParts, IsContent}
use Rattle.poly_tree.specs.Poly.{IsLegal, IsReduced}

-- what is canonical as a multiple is so itself
mutual
  pub unscaled : (bound : ℕ) (k : ℤ) (t : Expansion) → IsCanonical bound (scaled k t) → IsCanonical bound t
  unscaled bound k (number n) h = tt
  unscaled bound k (over v ps) h = (h.0, unscaled-parts v k ps h.1, unscaled-top k ps h.2)

  unscaled-parts : (bound : ℕ) (k : ℤ) (ps : Parts) → AreCanonical bound (parts_scaled k ps) → AreCanonical bound ps
  unscaled-parts bound k none h = tt
  unscaled-parts bound k (part t ps) h = (unscaled bound k t h.0, unscaled-parts bound k ps h.1)

  unscaled-top : (k : ℤ) (ps : Parts) → HasTop (parts_scaled k ps) → HasTop ps
  unscaled-top k none h = h
  unscaled-top k (part t none) h = h
  unscaled-top k (part t (part u ps)) h = unscaled-last k u ps h

  unscaled-last : (k : ℤ) (t : Expansion) (ps : Parts) → LastNonzero (scaled k t) (parts_scaled k ps) → LastNonzero t ps
  unscaled-last k t none h = λ e. h (ap (scaled k) e ∙ ap number (mul-zero k))
  unscaled-last k t (part u ps) h = unscaled-last k u ps h

-- and so with degrees
mutual
  unscaled-degrees : (d : ℕ) (k : ℤ) (t : Expansion) → DegreesAtMost d (scaled k t) → DegreesAtMost d t
  unscaled-degrees d k (number n) h = tt
  unscaled-degrees d k (over v ps) h = (omega (arith, h.0, count-scaled k ps), unscaled-parts_degrees d k ps h.1)

  unscaled-parts_degrees : (d : ℕ) (k : ℤ) (ps : Parts) → PartsDegreesAtMost d (parts_scaled k ps) → PartsDegreesAtMost d ps
  unscaled-parts_degrees d k none h = tt
  unscaled-parts_degrees d k (part t ps) h = (unscaled-degrees d k t h.0, unscaled-parts_degrees d k ps h.1)

  count-scaled : (k : ℤ) (ps : Parts) → parts_count (parts_scaled k ps) ≡ parts_count ps
  count-scaled k none = refl
  count-scaled k (part t ps) = ap suc (count-scaled k ps)

mutual
  pub degrees-scaled : (d : ℕ) (k : ℤ) (t : Expansion) → DegreesAtMost d t → DegreesAtMost d (scaled k t)
  degrees-scaled d k (number n) h = tt
  degrees-scaled d k (over v ps) h = (omega (arith, h.0, count-scaled k ps), degrees-scaled_parts d k ps h.1)

  degrees-scaled_parts : (d : ℕ) (k : ℤ) (ps : Parts) → PartsDegreesAtMost d ps → PartsDegreesAtMost d (parts_scaled k ps)
  degrees-scaled_parts d k none h = tt
  degrees-scaled_parts d k (part t ps) h = (degrees-scaled d k t h.0, degrees-scaled_parts d k ps h.1)

-- a common divisor of the coefficients, times a factor
mutual
  divides-scaled : (j : ℕ) (k : ℤ) (t : Expansion) → DividesAll j t → DividesAll (unsigned_abs k * j) (scaled k t)
  divides-scaled j k (number n) h = subst (λ (m : ℕ). unsigned_abs k * j ∣ m) (sym (unsigned_abs-mul k n)) (mul-dvd-mul_left j (unsigned_abs k) h)
  divides-scaled j k (over v ps) h = divides-scaled_parts j k ps h

  divides-scaled_parts : (j : ℕ) (k : ℤ) (ps : Parts) → DividesParts j ps → DividesParts (unsigned_abs k * j) (parts_scaled k ps)
  divides-scaled_parts j k none h = tt
  divides-scaled_parts j k (part t ps) h = (divides-scaled j k t h.0, divides-scaled_parts j k ps h.1)

-- what is left of a common factor after a division by it
primitive : (t : Expansion) (u : Expansion) (f q : ℤ) (start : ℕ) → 1 ≤ unsigned_abs f → IsContent t start (unsigned_abs f) → scaled f u ≡ t → unsigned_abs f * unsigned_abs q ≡ start
    → (k : ℕ) → k ∣ unsigned_abs q → DividesAll k u → k ≡ 1
primitive t u f q start some content e is k p h =
    let factor = unsigned_abs f in
    let of_start : factor * k ∣ start = subst (λ (m : ℕ). factor * k ∣ m) is (mul-dvd-mul_left k factor p) in
    let of_all : DividesAll (factor * k) t = subst (DividesAll (factor * k)) e (divides-scaled k f u h) in
    let of_factor : factor * k ∣ factor * 1 = subst (λ (m : ℕ). factor * k ∣ m) (one factor) (content.greatest (factor * k) of_start of_all) in
    dvd_antisymm (dvd_of_mul-dvd-mul_left k some of_factor) (one-dvd k) where
      one : (n : ℕ) → n ≡ n * 1
      one n = omega arith

sizes : (f q den : ℤ) → (f *ℤ q) ≡ den → unsigned_abs f * unsigned_abs q ≡ unsigned_abs den
sizes f q den e = sym (unsigned_abs-mul f q) ∙ ap unsigned_abs e

at_least_one : (z : ℤ) → pos 1 ≤ℤ z → 1 ≤ unsigned_abs z
at_least_one z p = omega (arith, ints)

-- the quotient is at least 1
above : (f q den : ℤ) → pos 1 ≤ℤ f → pos 1 ≤ℤ den → (f *ℤ q) ≡ den → pos 1 ≤ℤ q
above f (pos (suc n)) den p d e = omega (arith, ints)
above f (pos zero) den p d e = absurd (omega (arith, ints, sym e ∙ mul-zero f))
above (pos (suc m)) (negsuc n) den p d e = absurd (grind (arith, ints))
above (pos zero) (negsuc n) den p d e = absurd (omega (arith, ints))
above (negsuc m) (negsuc n) den p d e = absurd (omega (arith, ints))

-- a canonical tree divided by its content is a legal polynomial
pub legal-reduced : (t : Expansion) (u : Expansion) (f q den : ℤ) → pos 1 ≤ℤ f → pos 1 ≤ℤ den → IsContent t (unsigned_abs den) (unsigned_abs f) → scaled f u ≡ t → (f *ℤ q) ≡ den
    → IsCanonical (2 ^ 16) t → DegreesAtMost 8 t → IsLegal (record { tree = u; denominator = unsigned_abs q }) × (pos 1 ≤ℤ q)
legal-reduced t u f q den some positive content e is canonical degrees = (
  record {
    canonical = unscaled (2 ^ 16) f u (subst (IsCanonical (2 ^ 16)) (sym e) canonical);
    degrees = unscaled-degrees 8 f u (subst (DegreesAtMost 8) (sym e) degrees);
    positive = at_least_one q (above f q den some positive is);
    primitive = primitive t u f q (unsigned_abs den) (at_least_one f some) content e (sizes f q den is);
  },
  above f q den some positive is,
)

-- and it is the tree over the denominator
pub is-reduced : (t : Expansion) (u : Expansion) (f q den : ℤ) → pos 1 ≤ℤ f → scaled f u ≡ t → (f *ℤ q) ≡ den
    → IsReduced t (unsigned_abs den) (record { tree = u; denominator = unsigned_abs q })
is-reduced t u f q den some e is = record {
  factor = unsigned_abs f;
  some = at_least_one f some;
  tree = ap (λ (z : ℤ). scaled z u) (same f some) ∙ e;
  over = sizes f q den is;
} where
  same : (z : ℤ) → pos 1 ≤ℤ z → pos (unsigned_abs z) ≡ z
  same (pos n) p = refl
  same (negsuc n) p = absurd (omega (arith, ints))
