-- Polynomials by their terms.
use Rattle.std.proofs.Common.{◌≡◌, ℕ, zero, suc, ◌+◌, ◌*◌, ◌<◌, ◌≤◌, max, min, List, [], ◌∷◌, ◌++◌, length, get_or, take, drop, replicate, arith, subst, sym, refl, ◌∙◌, ap, append_assoc, mul-le-mul, Vec, Global}
use Rattle.std.proofs.Math.IntN.{ℤ, pos, ◌+ℤ◌, ◌*ℤ◌}
use Rattle.std.specs.Prelude.{slice_get, Some}
use Rattle.std.specs.List.{AllByRecursion}
use Rattle.std.proofs.lemmas.Int.{ints}
use Rattle.std.proofs.lemmas.List.{take_more, length-take-le, length_push, get_or_at, get_or_past, take-append-drop, map-append}
use Rattle.base_laws.proofs.Ring.{mul-zero, one-mul, mul-one, mul_assoc_ℤ, mul_comm}
use Rattle.iolb_model.specs.Polynomial.{Term, int_power, monomial, terms_value}
use Rattle.base_laws.proofs.Lists.{All-at}
use Rattle.poly_tree.specs.Expansion.{Expansion, zero_expansion, parts_from, parts_count, at, value, parts_value, weight, parts_weight, powers_from, IsCanonical, AreCanonical, DegreesAtMost, PartsDegreesAtMost, IsJoined, IsSum, IsMonomial}
use Rattle.poly_tree.specs.Terms.{term_of, terms_of, terms_weight, HasExponents, IsTermsSum, IsTermsOver}
use Rattle.poly_tree.specs.Poly.{Quotient, IsReduced}
use Rattle.poly_tree.proofs.Expansions.{IsCanonical-more}
use Rattle.poly_tree.proofs.LinearLemmas.{capped-left, reduced-value}

unfoldable pub raised-parts : ℕ → Expansion → List Expansion
raised-parts e t = replicate e zero_expansion ++ t ∷ []

pub parts-value : (e : ℕ) (t : Expansion) (x : ℤ) (point : ℕ → ℤ) → parts_value (parts_from (raised-parts e t)) x point ≡ int_power x e *ℤ value t point
unfolding raised-parts
parts-value zero t x point = ap (λ (y : ℤ). value t point +ℤ y) (mul-zero x) ∙ plus (value t point) ∙ sym (one-mul (value t point)) where
  plus : (y : ℤ) → y +ℤ pos 0 ≡ y
  plus y = omega (arith, ints)
parts-value (suc e) t x point = plus (x *ℤ parts_value (parts_from (raised-parts e t)) x point) ∙ ap (λ (y : ℤ). x *ℤ y) (parts-value e t x point) ∙ sym (mul_assoc_ℤ x (int_power x e) (value t point)) where
  plus : (y : ℤ) → pos 0 +ℤ y ≡ y
  plus y = omega (arith, ints)

parts-weight : (e : ℕ) (t : Expansion) → parts_weight (parts_from (raised-parts e t)) ≡ weight t
unfolding raised-parts
parts-weight zero t = plus (weight t) where
  plus : (n : ℕ) → n + 0 ≡ n
  plus n = omega arith
parts-weight (suc e) t = plus (parts_weight (parts_from (raised-parts e t))) ∙ parts-weight e t where
  plus : (n : ℕ) → 0 + n ≡ n
  plus n = omega arith

pub parts-canonical : (e v : ℕ) (t : Expansion) → IsCanonical v t → AreCanonical v (parts_from (raised-parts e t))
unfolding raised-parts
parts-canonical zero v t h = (h, tt)
parts-canonical (suc e) v t h = (tt, parts-canonical e v t h)

parts-count : (e : ℕ) (t : Expansion) → parts_count (parts_from (raised-parts e t)) ≡ e + 1
unfolding raised-parts
parts-count zero t = refl
parts-count (suc e) t = omega (arith, parts-count e t)

parts-degrees : (e d : ℕ) (t : Expansion) → DegreesAtMost d t → PartsDegreesAtMost d (parts_from (raised-parts e t))
unfolding raised-parts
parts-degrees zero d t h = (h, tt)
parts-degrees (suc e) d t h = (tt, parts-degrees e d t h)

pub powers-push : (es : List ℕ) (e v : ℕ) (point : ℕ → ℤ) → powers_from (es ++ e ∷ []) v point ≡ powers_from es v point *ℤ int_power (point (v + length es)) e
powers-push [] e v point = mul-one (int_power (point v) e) ∙ ap (λ (n : ℕ). int_power (point n) e) (plus v) ∙ sym (one-mul (int_power (point (v + 0)) e)) where
  plus : (n : ℕ) → n ≡ n + 0
  plus n = omega arith
powers-push (f ∷ es) e v point =
    ap (λ (z : ℤ). int_power (point v) f *ℤ z) (powers-push es e (suc v) point ∙ ap (λ (n : ℕ). powers_from es (suc v) point *ℤ int_power (point n) e) (shift v (length es)))
    ∙ sym (mul_assoc_ℤ (int_power (point v) f) (powers_from es (suc v) point) (int_power (point (v + suc (length es))) e)) where
      shift : (m n : ℕ) → suc m + n ≡ m + suc n
      shift m n = omega arith

-- one variable more
powered : (c : ℤ) (es : List ℕ) (e v : ℕ) (t u : Expansion) → length es ≡ v → e ≤ 8 → IsMonomial c es t → IsJoined v (parts_from (raised-parts e t)) u → IsMonomial c (es ++ e ∷ []) u
powered c es e v t u len low h joined = record {
  product = λ point. joined.same point ∙ parts-value e t (point v) point ∙ ap (λ (z : ℤ). int_power (point v) e *ℤ z) (h.product point)
      ∙ turn (int_power (point v) e) c (powers_from es 0 point) ∙ ap (λ (n : ℕ). c *ℤ (powers_from es 0 point *ℤ int_power (point n) e)) (place (length es) len) ∙ ap (λ (z : ℤ). c *ℤ z) (sym (powers-push es e 0 point));
  light = omega (arith, joined.light, parts-weight e t, h.light);
  canonical = joined.canonical (length (es ++ e ∷ [])) (omega (arith, length_push es e)) (parts-canonical e v t (subst (λ (n : ℕ). IsCanonical n t) len h.canonical));
  degrees = joined.degrees 8 (omega (arith, parts-count e t)) (parts-degrees e 8 t h.degrees);
} where
  place : (n : ℕ) → n ≡ v → v ≡ 0 + n
  place n p = omega arith

  turn : (x y z : ℤ) → x *ℤ (y *ℤ z) ≡ y *ℤ (z *ℤ x)
  turn x y z = mul_comm x (y *ℤ z) ∙ mul_assoc_ℤ y z x

pub monomial-push : (c : ℤ) (es : List ℕ) (i e d : ℕ) (t u : Expansion) → i < length es → e ≡ get_or es i d → AllByRecursion (λ f. f ≤ 8) es → IsMonomial c (take i es) t
    → IsJoined i (parts_from (replicate e zero_expansion ++ t ∷ [])) u → IsMonomial c (take (i + 1) es) u
unfolding raised-parts
monomial-push c es i e d t u below read low h joined =
    subst (λ (fs : List ℕ). IsMonomial c fs u) (sym (take_more es i d below ∙ ap (λ (f : ℕ). take i es ++ f ∷ []) (sym read)))
    (powered c (take i es) e i t u (length-take-le i es (omega arith)) (subst (λ (f : ℕ). f ≤ 8) (sym read) (All-at (λ f. f ≤ 8) es i d low below)) h joined)

power-one : (e : ℕ) → int_power (pos 1) e ≡ pos 1
power-one zero = refl
power-one (suc e) = one-mul (int_power (pos 1) e) ∙ power-one e

-- variables that a point doesn't have are 1
past : (es : List ℕ) (v : ℕ) (point : List ℤ) → length point ≤ v → powers_from es v (at point) ≡ pos 1
past [] v point le = refl
past (e ∷ es) v point le =
    ap (λ (z : ℤ). int_power z e *ℤ powers_from es (suc v) (at point)) (get_or_past point v (pos 1) le)
    ∙ ap (λ (z : ℤ). z *ℤ powers_from es (suc v) (at point)) (power-one e) ∙ one-mul (powers_from es (suc v) (at point)) ∙ past es (suc v) point (omega arith)

pub powers-monomial : (es : List ℕ) (front ps : List ℤ) (v : ℕ) → length front ≡ v → powers_from es v (at (front ++ ps)) ≡ monomial es ps
powers-monomial [] front ps v e = refl
powers-monomial (f ∷ es) front [] v e = past (f ∷ es) v (front ++ []) (omega (arith, nothing front)) where
  nothing : (xs : List ℤ) → length (xs ++ []) ≡ length xs
  nothing [] = refl
  nothing (x ∷ xs) = ap suc (nothing xs)
powers-monomial (f ∷ es) front (p ∷ ps) v e =
    ap (λ (z : ℤ). int_power z f *ℤ powers_from es (suc v) (at (front ++ p ∷ ps))) (get_or_at front p ps (pos 1) v e)
    ∙ ap (λ (ys : List ℤ). int_power p f *ℤ powers_from es (suc v) (at ys)) (sym (append_assoc front (p ∷ []) ps))
    ∙ ap (λ (z : ℤ). int_power p f *ℤ z) (powers-monomial es (front ++ p ∷ []) ps (suc v) (omega (arith, length_push front p)))

pub terms_value-append : (ts us : List Term) (point : List ℤ) → terms_value (ts ++ us) point ≡ terms_value ts point +ℤ terms_value us point
terms_value-append [] us point = none (terms_value us point) where
  none : (a : ℤ) → a ≡ pos 0 +ℤ a
  none a = omega (arith, ints)
terms_value-append (t ∷ ts) us point = ap (λ (z : ℤ). (t.coefficient *ℤ monomial t.exponents point) +ℤ z) (terms_value-append ts us point)
    ∙ regroup (t.coefficient *ℤ monomial t.exponents point) (terms_value ts point) (terms_value us point) where
      regroup : (a b c : ℤ) → a +ℤ (b +ℤ c) ≡ (a +ℤ b) +ℤ c
      regroup a b c = omega (arith, ints)

pub terms_weight-append : (ts us : List Term) → terms_weight (ts ++ us) ≡ terms_weight ts + terms_weight us
terms_weight-append [] us = omega arith
terms_weight-append (t ∷ ts) us = omega (arith, terms_weight-append ts us)

-- terms in two parts
terms_split : (pairs front back : List (ℤ × Vec ℕ Global)) (i : ℕ) → front ≡ take i pairs → back ≡ drop i pairs → terms_of pairs ≡ terms_of front ++ terms_of back
terms_split pairs front back i first second =
    ap terms_of (sym (take-append-drop i pairs)) ∙ map-append term_of (take i pairs) (drop i pairs)
    ∙ ap (λ (ps : List (ℤ × Vec ℕ Global)). terms_of ps ++ terms_of (drop i pairs)) (sym first) ∙ ap (λ (ps : List (ℤ × Vec ℕ Global)). terms_of front ++ terms_of ps) (sym second)

-- no part is heavier than all, and each has exponents if all have
pub record ArePartsOf (pairs front back : List (ℤ × Vec ℕ Global)) : Type 0 where
  pub whole : terms_of pairs ≡ terms_of front ++ terms_of back
  pub weights : terms_weight (terms_of pairs) ≡ terms_weight (terms_of front) + terms_weight (terms_of back)
  pub first : AllByRecursion HasExponents (terms_of front)
  pub second : AllByRecursion HasExponents (terms_of back)

pub parts-of_terms : (pairs front back : List (ℤ × Vec ℕ Global)) (i : ℕ) → front ≡ take i pairs → back ≡ drop i pairs → AllByRecursion HasExponents (terms_of pairs) → ArePartsOf pairs front back
parts-of_terms pairs front back i first second low =
    let whole = terms_split pairs front back i first second in
    let both = All-parts HasExponents (terms_of front) (terms_of back) (subst (AllByRecursion HasExponents) whole low) in
    record { whole = whole; weights = ap terms_weight whole ∙ terms_weight-append (terms_of front) (terms_of back); first = both.0; second = both.1 } where
      All-parts : (P : Term → Type 0) (ts us : List Term) → AllByRecursion P (ts ++ us) → AllByRecursion P ts × AllByRecursion P us
      All-parts P [] us h = (tt, h)
      All-parts P (t ∷ ts) us h = let rest = All-parts P ts us h.1 in ((h.0, rest.0), rest.1)

-- one term, the first of a list of one
pub terms-one : (pairs : List (ℤ × Vec ℕ Global)) (x : ℤ × Vec ℕ Global) (m : Expansion) → length pairs ≡ 1 → Some x ≡ slice_get pairs 0 → AllByRecursion HasExponents (terms_of pairs)
    → IsMonomial x.0 x.1.items m → IsTermsSum (terms_of pairs) 24 m
terms-one [] x m one first low mono = absurd (omega arith)
terms-one (y ∷ z ∷ pairs) x m one first low mono = absurd (omega arith)
terms-one (y ∷ []) x m one first low mono =
    let here : x ≡ y = cc in
    let is : IsMonomial y.0 y.1.items m = subst (λ (p : ℤ × Vec ℕ Global). IsMonomial p.0 p.1.items m) here mono in
    record {
      sum = λ point. is.product (at point) ∙ ap (λ (z : ℤ). y.0 *ℤ z) (powers-monomial y.1.items [] point 0 refl) ∙ alone (y.0 *ℤ monomial y.1.items point);
      light = omega (arith, is.light);
      canonical = IsCanonical-more (length y.1.items) 24 m low.0.0 is.canonical;
      degrees = is.degrees;
    } where
      alone : (a : ℤ) → a ≡ a +ℤ pos 0
      alone a = omega (arith, ints)

pub some-terms : (pairs : List (ℤ × Vec ℕ Global)) (x : ℤ × Vec ℕ Global) → Some x ≡ slice_get pairs 0 → 1 ≤ length pairs
some-terms [] x first = absurd cc
some-terms (y ∷ pairs) x first = omega arith

-- what both parts add up to
pub terms-both : (ts us : List Term) (a b t : Expansion) → IsTermsSum ts 24 a → IsTermsSum us 24 b → IsSum a b t → IsTermsSum (ts ++ us) 24 t
terms-both ts us a b t h g added = record {
  sum = λ point. added.sum (at point) ∙ ap (λ (z : ℤ). z +ℤ value b (at point)) (h.sum point) ∙ ap (λ (z : ℤ). terms_value ts point +ℤ z) (g.sum point) ∙ sym (terms_value-append ts us point);
  light = omega (arith, added.light, h.light, g.light, terms_weight-append ts us);
  canonical = added.canonical 24 h.canonical g.canonical;
  degrees = added.degrees 8 h.degrees g.degrees;
}

pub terms-over : (terms : List Term) (t : Expansion) (d : ℕ) (r : Quotient) → IsTermsSum terms 24 t → IsReduced t d r → IsTermsOver terms d r
terms-over terms t d r h reduced = λ point. reduced-value t d r reduced (at point) ∙ ap (λ (z : ℤ). z *ℤ pos r.denominator) (h.sum point)
