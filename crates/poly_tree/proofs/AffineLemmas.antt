-- Forms as expansions.
use Rattle.std.proofs.Common.{◌≡◌, ℕ, suc, ◌+◌, ◌*◌, ◌<◌, ◌≤◌, ◌^◌, max, List, [], ◌∷◌, ◌++◌, length, get_or, take, arith, subst, sym, refl, ◌∙◌, ap, inl, inr, ◌⊎◌, lit≤, append_assoc}
use Rattle.std.proofs.Math.IntN.{ℤ, pos, negsuc, ◌+ℤ◌, ◌-ℤ◌, ◌*ℤ◌}
use Rattle.std.specs.Prelude.{unsigned_abs}
use Rattle.std.proofs.lemmas.Int.{ints}
use Rattle.std.proofs.lemmas.List.{take_more, length-take-le, get_or_at, length_push}
use Rattle.std.proofs.lemmas.Nat.Gcd.{dvd_antisymm}
use Rattle.std.proofs.Math.Nat.{one-dvd}
use Rattle.base_laws.proofs.Ring.{mul-zero, zero-mul, mul_comm, mul-one}
use Rattle.iolb_model.specs.Form.{AffineForm, dot, form_value}
use Rattle.poly_tree.specs.Expansion.{Expansion, Parts, number, over, none, part, at, put, value, weight, sizes, products_from, IsAffine, IsExtended, IsCanonical, DegreesAtMost, PartsDegreesAtMost}
use Rattle.poly_tree.specs.Poly.{Quotient, IsLegal, IsForm, IsPutIn, IsSubstitutionOf, IsShiftOf, SubstitutionPassesDegree, ShiftPassesDegree, PutPassesDegree, put_size, form_size}
use Rattle.std.specs.List.{AllByRecursion}
use Rattle.affine_form.specs.Form.{IsSmall, IsLegalForm}
use Rattle.poly_tree.proofs.Expansions.{IsCanonical-more}
use Rattle.iolb_model.specs.declared.limits.TheConstants.{COEFFICIENT_SIZE, MEASURE}

products-push : (xs : List ℤ) (x : ℤ) (v : ℕ) (point : ℕ → ℤ) → products_from (xs ++ x ∷ []) v point ≡ products_from xs v point +ℤ (x *ℤ point (v + length xs))
products-push [] x v point = flip (x *ℤ point v) (x *ℤ point (v + 0)) (ap (λ (n : ℕ). x *ℤ point n) (plus v)) where
  plus : (n : ℕ) → n ≡ n + 0
  plus n = omega arith

  flip : (a b : ℤ) → a ≡ b → a +ℤ pos 0 ≡ pos 0 +ℤ b
  flip a b e = omega (arith, ints)
products-push (y ∷ xs) x v point =
    ap (λ (z : ℤ). (y *ℤ point v) +ℤ z) (products-push xs x (suc v) point ∙ ap (λ (n : ℕ). products_from xs (suc v) point +ℤ (x *ℤ point n)) (shift v (length xs)))
    ∙ regroup (y *ℤ point v) (products_from xs (suc v) point) (x *ℤ point (v + suc (length xs))) where
      shift : (m n : ℕ) → suc m + n ≡ m + suc n
      shift m n = omega arith

      regroup : (a b c : ℤ) → a +ℤ (b +ℤ c) ≡ (a +ℤ b) +ℤ c
      regroup a b c = omega (arith, ints)

sizes-push : (xs : List ℤ) (x : ℤ) → sizes (xs ++ x ∷ []) ≡ sizes xs + unsigned_abs x
sizes-push [] x = omega arith
sizes-push (y ∷ xs) x = omega (arith, sizes-push xs x)

number-injective : (x y : ℤ) → number x ≡ number y → x ≡ y
number-injective x y e = cc

-- one variable more
extended : (xs : List ℤ) (x constant : ℤ) (v : ℕ) (t u : Expansion) → length xs ≡ v → IsAffine xs constant t → IsExtended v x t u → IsAffine (xs ++ x ∷ []) constant u
extended xs x constant v t u len h (inl e) = record {
  sum = λ point. ap (λ (s : Expansion). value s point) e.1 ∙ h.sum point
      ∙ ap (λ (z : ℤ). z +ℤ constant) (nothing (products_from xs 0 point) (x *ℤ point (0 + length xs)) (ap (λ (z : ℤ). z *ℤ point (0 + length xs)) e.0 ∙ zero-mul (point (0 + length xs))) ∙ sym (products-push xs x 0 point));
  canonical = subst (IsCanonical (length (xs ++ x ∷ []))) (sym e.1) (IsCanonical-more (length xs) (length (xs ++ x ∷ [])) t (omega (arith, length-push)) h.canonical);
  degrees = subst (DegreesAtMost 1) (sym e.1) h.degrees;
  heavy = ap weight e.1 ∙ h.heavy ∙ ap (λ (n : ℕ). n + unsigned_abs constant) (light e.0 ∙ sym (sizes-push xs x));
} where
  light : x ≡ pos 0 → sizes xs ≡ sizes xs + unsigned_abs x
  light p = omega (arith, ap unsigned_abs p)

  length-push : length (xs ++ x ∷ []) ≡ length xs + 1
  length-push = length-append-one xs where
    length-append-one : (ys : List ℤ) → length (ys ++ x ∷ []) ≡ length ys + 1
    length-append-one [] = refl
    length-append-one (y ∷ ys) = omega (arith, length-append-one ys)

  nothing : (a b : ℤ) → b ≡ pos 0 → a ≡ a +ℤ b
  nothing a b p = omega (arith, ints)
extended xs x constant v t u len h (inr e) = record {
  sum = λ point. ap (λ (s : Expansion). value s point) e.1
      ∙ ap (λ (z : ℤ). z +ℤ (point v *ℤ (x +ℤ (point v *ℤ pos 0)))) (h.sum point)
      ∙ ap (λ (z : ℤ). (products_from xs 0 point +ℤ constant) +ℤ (point v *ℤ z)) (plus_nothing x (point v))
      ∙ regroup (products_from xs 0 point) constant (point v *ℤ x) (x *ℤ point (0 + length xs)) (mul_comm (point v) x ∙ ap (λ (n : ℕ). x *ℤ point n) (place (length xs) len))
      ∙ ap (λ (z : ℤ). z +ℤ constant) (sym (products-push xs x 0 point));
  canonical = subst (IsCanonical (length (xs ++ x ∷ []))) (sym e.1)
      (omega (arith, length-push), (subst (λ (n : ℕ). IsCanonical n t) len h.canonical, (tt, tt)), λ p. e.0 (number-injective x (pos 0) p));
  degrees = subst (DegreesAtMost 1) (sym e.1) (lit≤ tt, (h.degrees, (tt, tt)));
  heavy = omega (arith, ap weight e.1, h.heavy, sizes-push xs x);
} where
  length-push : length (xs ++ x ∷ []) ≡ length xs + 1
  length-push = length-append-one xs where
    length-append-one : (ys : List ℤ) → length (ys ++ x ∷ []) ≡ length ys + 1
    length-append-one [] = refl
    length-append-one (y ∷ ys) = omega (arith, length-append-one ys)

  place : (n : ℕ) → n ≡ v → v ≡ 0 + n
  place n p = omega arith

  plus_nothing : (a y : ℤ) → a +ℤ (y *ℤ pos 0) ≡ a
  plus_nothing a y = ap (λ (z : ℤ). a +ℤ z) (mul-zero y) ∙ plus a where
    plus : (z : ℤ) → z +ℤ pos 0 ≡ z
    plus z = omega (arith, ints)

  regroup : (a b c d : ℤ) → c ≡ d → (a +ℤ b) +ℤ c ≡ (a +ℤ d) +ℤ b
  regroup a b c d p = omega (arith, ints)

pub affine-push : (xs : List ℤ) (i : ℕ) (x d constant : ℤ) (t u : Expansion) → i < length xs → x ≡ get_or xs i d → IsAffine (take i xs) constant t → IsExtended i x t u
    → IsAffine (take (i + 1) xs) constant u
affine-push xs i x d constant t u below read h e =
    subst (λ (ys : List ℤ). IsAffine ys constant u) (sym (take_more xs i d below ∙ ap (λ (y : ℤ). take i xs ++ y ∷ []) (sym read)))
    (extended (take i xs) x constant i t u (length-take-le i xs (omega arith)) h e)

-- a whole polynomial of low degree is legal
mutual
  pub degrees-more : (d e : ℕ) (t : Expansion) → d ≤ e → DegreesAtMost d t → DegreesAtMost e t
  degrees-more d e (number n) le h = tt
  degrees-more d e (over v ps) le h = (omega (arith, h.0), degrees-more_parts d e ps le h.1)

  degrees-more_parts : (d e : ℕ) (ps : Parts) → d ≤ e → PartsDegreesAtMost d ps → PartsDegreesAtMost e ps
  degrees-more_parts d e none le h = tt
  degrees-more_parts d e (part t ps) le h = (degrees-more d e t le h.0, degrees-more_parts d e ps le h.1)

pub legal-affine : (xs : List ℤ) (constant : ℤ) (t : Expansion) → length xs ≤ 24 → IsAffine xs constant t → IsLegal (record { tree = t; denominator = 1 })
legal-affine xs constant t few h = record {
  canonical = IsCanonical-more (length xs) (2 ^ 16) t (omega arith) h.canonical;
  degrees = degrees-more 1 8 t (lit≤ tt) h.degrees;
  positive = lit≤ tt;
  primitive = λ k p q. dvd_antisymm p (one-dvd k);
}

products-dot : (xs front ps : List ℤ) (v : ℕ) → length front ≡ v → length xs ≤ length ps → products_from xs v (at (front ++ ps)) ≡ dot xs ps
products-dot [] front ps v e le = refl
products-dot (x ∷ xs) front [] v e le = absurd (omega arith)
products-dot (x ∷ xs) front (p ∷ ps) v e le =
    ap (λ (z : ℤ). (x *ℤ z) +ℤ products_from xs (suc v) (at (front ++ p ∷ ps))) (get_or_at front p ps (pos 1) v e)
    ∙ ap (λ (ys : List ℤ). (x *ℤ p) +ℤ products_from xs (suc v) (at ys)) (sym (append_assoc front (p ∷ []) ps))
    ∙ ap (λ (z : ℤ). (x *ℤ p) +ℤ z) (products-dot xs (front ++ p ∷ []) ps (suc v) (pushed front e) (omega arith)) where
      pushed : (ys : List ℤ) → length ys ≡ v → length (ys ++ p ∷ []) ≡ suc v
      pushed ys q = omega (arith, length_push ys p)

pub form-affine : (form : AffineForm) (t : Expansion) → IsAffine form.coefficients form.constant t → IsForm form (record { tree = t; denominator = 1 })
form-affine form t h = record {
  whole = refl;
  same = λ point le. h.sum (at point) ∙ ap (λ (z : ℤ). z +ℤ form.constant) (products-dot form.coefficients [] point 0 refl le);
}

-- the weight of a form of the program is small
sizes-small : (xs : List ℤ) → AllByRecursion (IsSmall COEFFICIENT_SIZE) xs → sizes xs ≤ length xs * COEFFICIENT_SIZE
sizes-small [] h = omega arith
sizes-small (x ∷ xs) h = omega (arith, h.0, sizes-small xs h.1)

pub affine-light : (form : AffineForm) (t : Expansion) → IsLegalForm form → IsAffine form.coefficients form.constant t → weight t < MEASURE
affine-light form t legal h = omega (arith, h.heavy, sizes-small form.coefficients legal.1.0, legal.0, legal.1.1)

pub affine-weight : (form : AffineForm) (t : Expansion) → IsAffine form.coefficients form.constant t → max 1 (weight t) ≡ form_size form
affine-weight form t h = ap (max 1) h.heavy

pub affine-value : (form : AffineForm) (t : Expansion) → IsAffine form.coefficients form.constant t → (point : List ℤ) → length form.coefficients ≤ length point → value t (at point) ≡ form_value form point
affine-value form t h point le = h.sum (at point) ∙ ap (λ (z : ℤ). z +ℤ form.constant) (products-dot form.coefficients [] point 0 refl le)

-- a form that is put in
pub substitution-value : (a : Quotient) (v : ℕ) (form : AffineForm) (t : Expansion) (r : Quotient) → IsAffine form.coefficients form.constant t
    → IsPutIn a v (λ point. value t (at point)) r → IsSubstitutionOf a v form r
substitution-value a v form t r h p = λ point le.
    p point ∙ ap (λ (z : ℤ). value a.tree (put (at point) v z) *ℤ pos r.denominator) (affine-value form t h point le)

pub substitution-wide : (a : Quotient) (v : ℕ) (form : AffineForm) (t : Expansion) → IsAffine form.coefficients form.constant t
    → (MEASURE ≤ put_size a v (max 1 (weight t))) ⊎ PutPassesDegree a v t → (MEASURE ≤ put_size a v (form_size form)) ⊎ SubstitutionPassesDegree a v form
substitution-wide a v form t h (inl p) = inl (subst (λ (n : ℕ). MEASURE ≤ put_size a v n) (affine-weight form t h) p)
substitution-wide a v form t h (inr p) = inr (p.0, (p.1.0, (λ point le. p.1.1 (at point) ∙ ap (λ (z : ℤ). value a.tree (put (at point) v z)) (affine-value form t h point le)), p.1.2))

-- a variable minus 1 that is put in
minus_one-inner : (v : ℕ) (s t : Expansion) → s ≡ number (negsuc 0) → IsExtended v (pos 1) s t → t ≡ over v (part (number (negsuc 0)) (part (number (pos 1)) none))
minus_one-inner v s t e (inl h) = absurd (no h.0) where
  no : pos 1 ≡ pos 0 → ⊥
  no p = cc
minus_one-inner v s t e (inr h) = h.1 ∙ ap (λ (u : Expansion). over v (part u (part (number (pos 1)) none))) e

minus_one-value : (v : ℕ) (s t : Expansion) → s ≡ number (negsuc 0) → IsExtended v (pos 1) s t → (point : ℕ → ℤ) → value t point ≡ point v -ℤ pos 1
minus_one-value v s t e h point =
    ap (λ (u : Expansion). value u point) (minus_one-inner v s t e h)
    ∙ ap (λ (z : ℤ). negsuc 0 +ℤ (point v *ℤ (pos 1 +ℤ z))) (mul-zero (point v)) ∙ ap (λ (z : ℤ). negsuc 0 +ℤ z) (mul-one (point v)) ∙ back (point v) where
      back : (x : ℤ) → negsuc 0 +ℤ x ≡ x -ℤ pos 1
      back x = omega (arith, ints)

pub minus_one-weight : (v : ℕ) (s t : Expansion) → s ≡ number (negsuc 0) → IsExtended v (pos 1) s t → weight t ≡ 2
minus_one-weight v s t e h = ap weight (minus_one-inner v s t e h)

pub shift-value : (a : Quotient) (v : ℕ) (s t : Expansion) (r : Quotient) → s ≡ number (negsuc 0) → IsExtended v (pos 1) s t → IsPutIn a v (λ point. value t (at point)) r → IsShiftOf a v r
shift-value a v s t r e h p = λ point.
    p point ∙ ap (λ (z : ℤ). value a.tree (put (at point) v z) *ℤ pos r.denominator) (minus_one-value v s t e h (at point))

pub shift-wide : (a : Quotient) (v : ℕ) (s t : Expansion) → s ≡ number (negsuc 0) → IsExtended v (pos 1) s t
    → (MEASURE ≤ put_size a v (max 1 (weight t))) ⊎ PutPassesDegree a v t → (MEASURE ≤ put_size a v 2) ⊎ ShiftPassesDegree a v
shift-wide a v s t e h (inl p) = inl (subst (λ (n : ℕ). MEASURE ≤ put_size a v (max 1 n)) (minus_one-weight v s t e h) p)
shift-wide a v s t e h (inr p) = inr (p.0, (p.1.0, (λ point. p.1.1 (at point) ∙ ap (λ (z : ℤ). value a.tree (put (at point) v z)) (minus_one-value v s t e h (at point))), p.1.2))
