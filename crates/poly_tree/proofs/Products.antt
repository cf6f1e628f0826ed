-- Products of expansions.
use Rattle.std.proofs.Common.{◌≡◌, ◌≢◌, ℕ, zero, suc, ◌+◌, ◌*◌, ◌<◌, ◌≤◌, List, [], ◌∷◌, ◌++◌, length, get_or, arith, subst, sym, refl, ◌∙◌, ap, mul-le-mul_right, add-mul, Result, Ok, Err, IfOk}
use Rattle.std.proofs.Math.IntN.{ℤ, pos, negsuc, ◌+ℤ◌, ◌*ℤ◌}
use Rattle.std.specs.Prelude.{unsigned_abs}
use Rattle.std.proofs.lemmas.Int.{ints, unsigned_abs-mul}
use Rattle.std.proofs.lemmas.List.{get_or_append_left, get_or_push, map-append, length-map}
use borrow.Author.Count.{below_more}
use Rattle.base_laws.proofs.Ring.{mul-add, mul-zero, zero-mul, mul_assoc_ℤ, mul_comm, add-mul as add_mul_ℤ}
use Rattle.poly_tree.specs.declared.tree.Tree.{Tree}
use Rattle.poly_tree.specs.Expansion.{Expansion, Parts, number, over, none, part, zero_expansion, parts_from, value, parts_value, weight, parts_weight, scaled, parts_scaled, IsCanonical, AreCanonical, HasTop, LastNonzero, IsJoined, IsSum, IsProduct, IsRaised, IsPartsProduct, IsPartsIn}
use Rattle.poly_tree.specs.Tree.{expansion, expansions, part_at}
use Rattle.poly_tree.proofs.Expansions.{IsCanonical-more}
use Rattle.poly_tree.proofs.Sums.{parts_in-value, parts_in-weight, parts_in-canonical}

-- each part times a variable
abbrev pub AllRaised : ℕ → List Expansion → List Expansion → Type 0
AllRaised w xs ys = (k : ℕ) → k < length xs → IsRaised w (get_or xs k zero_expansion) (get_or ys k zero_expansion)

raised-value : (w : ℕ) (xs ys : List Expansion) (x : ℤ) (point : ℕ → ℤ) → length xs ≡ length ys → AllRaised w xs ys
    → parts_value (parts_from ys) x point ≡ point w *ℤ parts_value (parts_from xs) x point
raised-value w [] [] x point e h = sym (mul-zero (point w))
raised-value w [] (b ∷ ys) x point e h = absurd (omega arith)
raised-value w (a ∷ xs) [] x point e h = absurd (omega arith)
raised-value w (a ∷ xs) (b ∷ ys) x point e h =
    ap (λ (y : ℤ). y +ℤ (x *ℤ parts_value (parts_from ys) x point)) ((h 0 (omega arith)).times point)
    ∙ ap (λ (y : ℤ). (point w *ℤ value a point) +ℤ y)
    (ap (λ (y : ℤ). x *ℤ y) (raised-value w xs ys x point (omega arith) (λ k p. h (suc k) (omega arith)))
    ∙ sym (mul_assoc_ℤ x (point w) (parts_value (parts_from xs) x point)) ∙ ap (λ (y : ℤ). y *ℤ parts_value (parts_from xs) x point) (mul_comm x (point w)) ∙ mul_assoc_ℤ (point w) x (parts_value (parts_from xs) x point))
    ∙ sym (mul-add (point w) (value a point) (x *ℤ parts_value (parts_from xs) x point))

raised-weight : (w : ℕ) (xs ys : List Expansion) → length xs ≡ length ys → AllRaised w xs ys → parts_weight (parts_from ys) ≤ parts_weight (parts_from xs)
raised-weight w [] [] e h = omega arith
raised-weight w [] (b ∷ ys) e h = absurd (omega arith)
raised-weight w (a ∷ xs) [] e h = absurd (omega arith)
raised-weight w (a ∷ xs) (b ∷ ys) e h =
    omega (arith, (h 0 (omega arith)).light, raised-weight w xs ys (omega arith) (λ k p. h (suc k) (omega arith)))

raised-canonical : (bound w : ℕ) (xs ys : List Expansion) → w < bound → length xs ≡ length ys → AllRaised w xs ys → AreCanonical bound (parts_from xs) → AreCanonical bound (parts_from ys)
raised-canonical bound w [] [] below e h c = tt
raised-canonical bound w [] (b ∷ ys) below e h c = absurd (omega arith)
raised-canonical bound w (a ∷ xs) [] below e h c = absurd (omega arith)
raised-canonical bound w (a ∷ xs) (b ∷ ys) below e h c =
    ((h 0 (omega arith)).canonical bound below c.0, raised-canonical bound w xs ys below (omega arith) (λ k p. h (suc k) (omega arith)) c.1)

pub raised-over : (v w : ℕ) (t u : Expansion) (xs ys : List Expansion) → t ≡ over v (parts_from xs) → w < v → length xs ≡ length ys → AllRaised w xs ys
    → IsJoined v (parts_from ys) u → IsRaised w t u
raised-over v w t u xs ys e above len h joined = record {
  times = λ point. joined.same point ∙ raised-value w xs ys (point v) point len h ∙ ap (λ (y : Expansion). point w *ℤ value y point) (sym e);
  light = omega (arith, joined.light, raised-weight w xs ys len h, ap weight e);
  canonical = λ bound below c.
      let whole = subst (IsCanonical bound) e c in
      joined.canonical bound whole.0 (raised-canonical v w xs ys above len h whole.1);
}

-- the value of a multiple
mutual
  pub value-scaled : (k : ℤ) (t : Expansion) (point : ℕ → ℤ) → value (scaled k t) point ≡ k *ℤ value t point
  value-scaled k (number n) point = refl
  value-scaled k (over v ps) point = parts_value-scaled k ps (point v) point

  parts_value-scaled : (k : ℤ) (ps : Parts) (x : ℤ) (point : ℕ → ℤ) → parts_value (parts_scaled k ps) x point ≡ k *ℤ parts_value ps x point
  parts_value-scaled k none x point = sym (mul-zero k)
  parts_value-scaled k (part t ps) x point =
      ap (λ (y : ℤ). y +ℤ (x *ℤ parts_value (parts_scaled k ps) x point)) (value-scaled k t point)
      ∙ ap (λ (y : ℤ). (k *ℤ value t point) +ℤ y)
      (ap (λ (y : ℤ). x *ℤ y) (parts_value-scaled k ps x point) ∙ sym (mul_assoc_ℤ x k (parts_value ps x point)) ∙ ap (λ (y : ℤ). y *ℤ parts_value ps x point) (mul_comm x k) ∙ mul_assoc_ℤ k x (parts_value ps x point))
      ∙ sym (mul-add k (value t point) (x *ℤ parts_value ps x point))

-- the weight of a multiple
mutual
  pub weight-scaled : (k : ℤ) (t : Expansion) → weight (scaled k t) ≡ unsigned_abs k * weight t
  weight-scaled k (number n) = unsigned_abs-mul k n
  weight-scaled k (over v ps) = parts_weight-scaled k ps

  parts_weight-scaled : (k : ℤ) (ps : Parts) → parts_weight (parts_scaled k ps) ≡ unsigned_abs k * parts_weight ps
  parts_weight-scaled k none = omega arith
  parts_weight-scaled k (part t ps) =
      ap (λ (m : ℕ). m + parts_weight (parts_scaled k ps)) (weight-scaled k t) ∙ ap (λ (m : ℕ). unsigned_abs k * weight t + m) (parts_weight-scaled k ps) ∙ sym (spread (unsigned_abs k) (weight t) (parts_weight ps)) where
        spread : (a b d : ℕ) → a * (b + d) ≡ a * b + a * d
        spread a b d = omega arith

-- a product of numbers that aren't 0 isn't 0
nonzero-product : (k n : ℤ) → k ≢ pos 0 → (k *ℤ n) ≡ pos 0 → n ≡ pos 0
nonzero-product k n h e = from (unsigned_abs k) (unsigned_abs n) (sizes k h) (sym (unsigned_abs-mul k n) ∙ ap unsigned_abs e) (zero-size n) where
  sizes : (z : ℤ) → z ≢ pos 0 → 1 ≤ unsigned_abs z
  sizes (pos zero) h = absurd (h refl)
  sizes (pos (suc m)) h = omega arith
  sizes (negsuc m) h = omega arith

  zero-size : (z : ℤ) → unsigned_abs z ≡ 0 → z ≡ pos 0
  zero-size (pos m) e = ap pos e
  zero-size (negsuc m) e = absurd (omega arith)

  from : (a b : ℕ) → 1 ≤ a → a * b ≡ 0 → (b ≡ 0 → n ≡ pos 0) → n ≡ pos 0
  from zero b p q r = absurd (omega arith)
  from (suc a) zero p q r = r refl
  from (suc a) (suc b) p q r = absurd (omega arith)

-- a multiple that is zero
scaled-zero : (k : ℤ) (t : Expansion) → k ≢ pos 0 → scaled k t ≡ zero_expansion → t ≡ zero_expansion
scaled-zero k (number n) h e = ap number (nonzero-product k n h (number-injective e)) where
  number-injective : {x y : ℤ} → number x ≡ number y → x ≡ y
  number-injective p = cc
scaled-zero k (over v ps) h e = absurd cc

-- a multiple of a canonical polynomial
mutual
  pub canonical-scaled : (bound : ℕ) (k : ℤ) (t : Expansion) → k ≢ pos 0 → IsCanonical bound t → IsCanonical bound (scaled k t)
  canonical-scaled bound k (number n) h c = tt
  canonical-scaled bound k (over v ps) h c = (c.0, parts_canonical-scaled v k ps h c.1, top-scaled k ps h c.2)

  parts_canonical-scaled : (bound : ℕ) (k : ℤ) (ps : Parts) → k ≢ pos 0 → AreCanonical bound ps → AreCanonical bound (parts_scaled k ps)
  parts_canonical-scaled bound k none h c = tt
  parts_canonical-scaled bound k (part t ps) h c = (canonical-scaled bound k t h c.0, parts_canonical-scaled bound k ps h c.1)

  top-scaled : (k : ℤ) (ps : Parts) → k ≢ pos 0 → HasTop ps → HasTop (parts_scaled k ps)
  top-scaled k none h c = c
  top-scaled k (part t none) h c = c
  top-scaled k (part t (part u ps)) h c = last-scaled k u ps h c

  last-scaled : (k : ℤ) (t : Expansion) (ps : Parts) → k ≢ pos 0 → LastNonzero t ps → LastNonzero (scaled k t) (parts_scaled k ps)
  last-scaled k t none h c = λ e. c (scaled-zero k t h e)
  last-scaled k t (part u ps) h c = last-scaled k u ps h c

-- a number times a polynomial
pub product-number : (n : ℤ) (a b t : Expansion) → n ≢ pos 0 → a ≡ number n → t ≡ scaled n b → IsProduct a b t
product-number n a b t nonzero e f = record {
  product = λ point. ap (λ (u : Expansion). value u point) f ∙ value-scaled n b point ∙ ap (λ (u : Expansion). value u point *ℤ value b point) (sym e);
  light = omega (arith, ap weight f, weight-scaled n b, ap (λ (u : Expansion). weight u * weight b) e);
  canonical = λ bound p q. subst (IsCanonical bound) (sym f) (canonical-scaled bound n b nonzero q);
}

-- one part more, from the front
pub product-part : (v : ℕ) (ps : Parts) (u b m s total t : Expansion) → IsPartsProduct v ps b total → IsProduct u b m → IsRaised v total s → IsSum m s t
    → IsPartsProduct v (part u ps) b t
product-part v ps u b m s total t h product raised added = record {
  product = λ point. added.sum point
      ∙ ap (λ (y : ℤ). y +ℤ value s point) (product.product point)
      ∙ ap (λ (y : ℤ). (value u point *ℤ value b point) +ℤ y) (raised.times point ∙ ap (λ (y : ℤ). point v *ℤ y) (h.product point) ∙ sym (mul_assoc_ℤ (point v) (parts_value ps (point v) point) (value b point)))
      ∙ sym (add_mul_ℤ (value u point) (point v *ℤ parts_value ps (point v) point) (value b point));
  light = omega (arith, added.light, product.light, raised.light, h.light, add-mul (weight u) (parts_weight ps) (weight b));
  canonical = λ bound below c q. added.canonical bound (product.canonical bound (IsCanonical-more v bound u (omega arith) c.0) q)
      (raised.canonical bound below (h.canonical bound below c.1 q));
}

-- a product of a part fits beside that of those after it
pub product-room : (u s a b m r limit : ℕ) → m ≤ u * b → r ≤ s * b → u + s ≤ a → a * b < limit → m + r < limit
product-room u s a b m r limit p q le room =
    let whole : (u + s) * b ≤ a * b = mul-le-mul_right b le in omega (arith, add-mul u s b)

-- what holds of a result's value
pub IfOk-map : {T E : Type 0} (P Q : T → Type 0) (r : Result T E) → ((t : T) → P t → Q t) → IfOk r P → IfOk r Q
IfOk-map P Q (Ok t) f h = f t h
IfOk-map P Q (Err e) f h = h
