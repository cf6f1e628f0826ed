-- Products of variables, as canonical trees.
use Rattle.std.proofs.Common.{◌≡◌, ◌≢◌, refl, sym, ◌∙◌, ap, ℕ, zero, suc, ◌+◌, ◌<◌, ◌≤◌, List, [], ◌∷◌, Bool, true, false, length, subst, arith, ◌-◌}
use Rattle.std.specs.Prelude.{◌==◌, nat_lt}
use Rattle.std.specs.List.{AllByRecursion}
use Rattle.std.proofs.Math.IntN.{ℤ, pos, negsuc, ◌+ℤ◌, ◌*ℤ◌}
use Rattle.std.proofs.lemmas.Int.{ints}
use Rattle.std.proofs.lemmas.Bool.{eqb-true}
use Rattle.std.proofs.lemmas.Bool.Decides.{nat_tests}
use Rattle.base_laws.proofs.Ring.{mul-add, mul-zero, mul-swap}
use Rattle.poly_tree.specs.Expansion.{Expansion, Parts, number, over, none, part, zero_expansion, value, parts_value, weight, parts_weight, IsCanonical, AreCanonical, HasTop, LastNonzero, DegreesAtMost, PartsDegreesAtMost, parts_count}
use Rattle.projective.specs.Products.{product_of}

-- a tree whose highest variable is w times a variable v: by whether they are one, and whether v is lower
abbrev placed : Bool → Bool → ℕ → ℕ → Parts → Parts → Expansion
placed true below v w ps products = over v (part zero_expansion ps)
placed false true v w ps products = over w products
placed false false v w ps products = over v (part zero_expansion (part (over w ps) none))

-- a tree times a variable
abbrev mutual
  pub times : ℕ → Expansion → Expansion
  times v (number (pos zero)) = zero_expansion
  times v (number (pos (suc n))) = over v (part zero_expansion (part (number (pos (suc n))) none))
  times v (number (negsuc n)) = over v (part zero_expansion (part (number (negsuc n)) none))
  times v (over w ps) = placed (w == v) (nat_lt v w) v w ps (parts_times v ps)

  parts_times : ℕ → Parts → Parts
  parts_times v none = none
  parts_times v (part t ps) = part (times v t) (parts_times v ps)

-- the product of variables
abbrev pub product_tree : List ℕ → Expansion
product_tree [] = number (pos 1)
product_tree (v ∷ vs) = times v (product_tree vs)

-- ---- values

raised : (x a : ℤ) → pos 0 +ℤ (x *ℤ (a +ℤ (x *ℤ pos 0))) ≡ x *ℤ a
raised x a = ap (λ (z : ℤ). pos 0 +ℤ (x *ℤ (a +ℤ z))) (mul-zero x) ∙ drop (x *ℤ a) (a +ℤ pos 0) (last a) where
  last : (y : ℤ) → y +ℤ pos 0 ≡ y
  last y = omega (arith, ints)

  drop : (y b : ℤ) → b ≡ a → pos 0 +ℤ (x *ℤ b) ≡ x *ℤ a
  drop y b e = front (x *ℤ b) ∙ ap (λ (z : ℤ). x *ℤ z) e where
    front : (z : ℤ) → pos 0 +ℤ z ≡ z
    front z = omega (arith, ints)

mutual
  pub times-value : (v : ℕ) (t : Expansion) (f : ℕ → ℤ) → value (times v t) f ≡ f v *ℤ value t f
  times-value v (number (pos zero)) f = sym (mul-zero (f v))
  times-value v (number (pos (suc n))) f = raised (f v) (pos (suc n))
  times-value v (number (negsuc n)) f = raised (f v) (negsuc n)
  times-value v (over w ps) f = by (w == v) (nat_lt v w) refl (parts-times-value v ps (f w) f) where
    by : (b d : Bool) → b ≡ (w == v) → parts_value (parts_times v ps) (f w) f ≡ f v *ℤ parts_value ps (f w) f
        → value (placed b d v w ps (parts_times v ps)) f ≡ f v *ℤ parts_value ps (f w) f
    by true d e h = front (f v *ℤ parts_value ps (f v) f) ∙ ap (λ (u : ℕ). f v *ℤ parts_value ps (f u) f) (sym (eqb-true w v (sym e))) where
      front : (z : ℤ) → pos 0 +ℤ z ≡ z
      front z = omega (arith, ints)
    by false true e h = h
    by false false e h = raised (f v) (parts_value ps (f w) f)

  parts-times-value : (v : ℕ) (ps : Parts) (x : ℤ) (f : ℕ → ℤ) → parts_value (parts_times v ps) x f ≡ f v *ℤ parts_value ps x f
  parts-times-value v none x f = sym (mul-zero (f v))
  parts-times-value v (part t ps) x f =
      ap (λ (z : ℤ). z +ℤ (x *ℤ parts_value (parts_times v ps) x f)) (times-value v t f)
      ∙ ap (λ (z : ℤ). (f v *ℤ value t f) +ℤ (x *ℤ z)) (parts-times-value v ps x f)
      ∙ ap (λ (z : ℤ). (f v *ℤ value t f) +ℤ z) (mul-swap x (f v) (parts_value ps x f))
      ∙ sym (mul-add (f v) (value t f) (x *ℤ parts_value ps x f))

pub product-value : (vs : List ℕ) (f : ℕ → ℤ) → value (product_tree vs) f ≡ product_of vs f
product-value [] f = refl
product-value (v ∷ vs) f = times-value v (product_tree vs) f ∙ ap (λ (z : ℤ). f v *ℤ z) (product-value vs f)

-- ---- canonical trees

above : (w v : ℕ) → (w == v) ≡ false → nat_lt v w ≡ false → w < v
above w v p q = grind (arith, nat_tests)

lower : (w v : ℕ) → nat_lt v w ≡ true → v < w
lower w v p = grind (arith, nat_tests)

-- a tree that isn't zero times a variable isn't zero
placed-nonzero : (b d : Bool) (v w : ℕ) (ps products : Parts) → placed b d v w ps products ≢ zero_expansion
placed-nonzero true d v w ps products e = cc
placed-nonzero false true v w ps products e = cc
placed-nonzero false false v w ps products e = cc

times-nonzero : (v : ℕ) (t : Expansion) → t ≢ zero_expansion → times v t ≢ zero_expansion
times-nonzero v (number (pos zero)) h e = h refl
times-nonzero v (number (pos (suc n))) h e = cc
times-nonzero v (number (negsuc n)) h e = cc
times-nonzero v (over w ps) h e = placed-nonzero (w == v) (nat_lt v w) v w ps (parts_times v ps) e

pub product-nonzero : (vs : List ℕ) → product_tree vs ≢ zero_expansion
product-nonzero [] e = let same : pos 1 ≡ pos 0 = cc in absurd cc
product-nonzero (v ∷ vs) e = times-nonzero v (product_tree vs) (product-nonzero vs) e

times-last : (v : ℕ) (t : Expansion) (ps : Parts) → LastNonzero t ps → LastNonzero (times v t) (parts_times v ps)
times-last v t none h = times-nonzero v t h
times-last v t (part u ps) h = times-last v u ps h

times-top : (v : ℕ) (ps : Parts) → HasTop ps → HasTop (parts_times v ps)
times-top v none h = h
times-top v (part t none) h = h
times-top v (part t (part u ps)) h = times-last v u ps h

shifted-top : (ps : Parts) → HasTop ps → HasTop (part zero_expansion ps)
shifted-top none h = h
shifted-top (part t none) h = absurd h
shifted-top (part t (part u ps)) h = h

mutual
  pub times-canonical : (bound v : ℕ) (t : Expansion) → v < bound → IsCanonical bound t → IsCanonical bound (times v t)
  times-canonical bound v (number (pos zero)) below c = tt
  times-canonical bound v (number (pos (suc n))) below c = (below, (tt, (tt, tt)), λ e. let same : pos (suc n) ≡ pos 0 = cc in absurd cc)
  times-canonical bound v (number (negsuc n)) below c = (below, (tt, (tt, tt)), λ e. let same : negsuc n ≡ pos 0 = cc in absurd cc)
  times-canonical bound v (over w ps) below c = by (w == v) (nat_lt v w) refl refl (λ less. parts-times-canonical w v ps less c.1) where
    by : (b d : Bool) → b ≡ (w == v) → d ≡ nat_lt v w → (v < w → AreCanonical w (parts_times v ps)) → IsCanonical bound (placed b d v w ps (parts_times v ps))
    by true d e f g = (below, (tt, subst (λ (u : ℕ). AreCanonical u ps) (eqb-true w v (sym e)) c.1), shifted-top ps c.2)
    by false true e f g = (c.0, g (lower w v (sym f)), times-top v ps c.2)
    by false false e f g = (below, (tt, ((above w v (sym e) (sym f), c.1, c.2), tt)), λ same. cc)

  parts-times-canonical : (bound v : ℕ) (ps : Parts) → v < bound → AreCanonical bound ps → AreCanonical bound (parts_times v ps)
  parts-times-canonical bound v none below c = tt
  parts-times-canonical bound v (part t ps) below c = (times-canonical bound v t below c.0, parts-times-canonical bound v ps below c.1)

pub product-canonical : (bound : ℕ) (vs : List ℕ) → AllByRecursion (λ (v : ℕ). v < bound) vs → IsCanonical bound (product_tree vs)
product-canonical bound [] h = tt
product-canonical bound (v ∷ vs) h = times-canonical bound v (product_tree vs) h.0 (product-canonical bound vs h.1)

-- ---- degrees

mutual
  degrees-more : (d : ℕ) (t : Expansion) → DegreesAtMost d t → DegreesAtMost (suc d) t
  degrees-more d (number n) h = tt
  degrees-more d (over v ps) h = (omega (arith, h.0), parts-degrees-more d ps h.1)

  parts-degrees-more : (d : ℕ) (ps : Parts) → PartsDegreesAtMost d ps → PartsDegreesAtMost (suc d) ps
  parts-degrees-more d none h = tt
  parts-degrees-more d (part t ps) h = (degrees-more d t h.0, parts-degrees-more d ps h.1)

times-count : (v : ℕ) (ps : Parts) → parts_count (parts_times v ps) ≡ parts_count ps
times-count v none = refl
times-count v (part t ps) = ap suc (times-count v ps)

mutual
  times-degrees : (d v : ℕ) (t : Expansion) → DegreesAtMost d t → DegreesAtMost (suc d) (times v t)
  times-degrees d v (number (pos zero)) h = tt
  times-degrees d v (number (pos (suc n))) h = (omega arith, (tt, (tt, tt)))
  times-degrees d v (number (negsuc n)) h = (omega arith, (tt, (tt, tt)))
  times-degrees d v (over w ps) h = by (w == v) (nat_lt v w) (parts-times-degrees d v ps h.1) where
    by : (b e : Bool) → PartsDegreesAtMost (suc d) (parts_times v ps) → DegreesAtMost (suc d) (placed b e v w ps (parts_times v ps))
    by true e g = (omega (arith, h.0), (tt, parts-degrees-more d ps h.1))
    by false true g = (omega (arith, h.0, times-count v ps), g)
    by false false g = (omega arith, (tt, (degrees-more d (over w ps) h, tt)))

  parts-times-degrees : (d v : ℕ) (ps : Parts) → PartsDegreesAtMost d ps → PartsDegreesAtMost (suc d) (parts_times v ps)
  parts-times-degrees d v none h = tt
  parts-times-degrees d v (part t ps) h = (times-degrees d v t h.0, parts-times-degrees d v ps h.1)

pub product-degrees : (vs : List ℕ) → DegreesAtMost (length vs) (product_tree vs)
product-degrees [] = tt
product-degrees (v ∷ vs) = times-degrees (length vs) v (product_tree vs) (product-degrees vs)

-- ---- weights

mutual
  times-weight : (v : ℕ) (t : Expansion) → weight (times v t) ≡ weight t
  times-weight v (number (pos zero)) = refl
  times-weight v (number (pos (suc n))) = omega arith
  times-weight v (number (negsuc n)) = omega arith
  times-weight v (over w ps) = by (w == v) (nat_lt v w) (parts-times-weight v ps) where
    by : (b e : Bool) → parts_weight (parts_times v ps) ≡ parts_weight ps → weight (placed b e v w ps (parts_times v ps)) ≡ parts_weight ps
    by true e g = omega arith
    by false true g = g
    by false false g = omega arith

  parts-times-weight : (v : ℕ) (ps : Parts) → parts_weight (parts_times v ps) ≡ parts_weight ps
  parts-times-weight v none = refl
  parts-times-weight v (part t ps) = ap (λ (n : ℕ). n + parts_weight (parts_times v ps)) (times-weight v t) ∙ ap (λ (n : ℕ). weight t + n) (parts-times-weight v ps)

pub product-weight : (vs : List ℕ) → weight (product_tree vs) ≡ 1
product-weight [] = refl
product-weight (v ∷ vs) = times-weight v (product_tree vs) ∙ product-weight vs
