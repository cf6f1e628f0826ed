-- A product of variables times a variable less 1, as a canonical tree.
use Rattle.std.proofs.Common.{◌≡◌, refl, sym, ◌∙◌, ap, subst, ℕ, suc, ◌+◌, ◌*◌, ◌<◌, ◌≤◌, List, [], ◌∷◌, Bool, true, false, length, arith}
use Rattle.std.specs.Prelude.{◌==◌, nat_lt, if◌then◌else◌}
use Rattle.std.specs.List.{AllByRecursion}
use Rattle.std.proofs.Math.IntN.{ℤ, pos, negsuc, ◌+ℤ◌, ◌-ℤ◌, ◌*ℤ◌}
use Rattle.std.proofs.lemmas.Int.{ints}
use Rattle.std.proofs.lemmas.Bool.{eqb-true}
use Rattle.std.proofs.lemmas.Bool.Decides.{nat_tests}
use Rattle.base_laws.proofs.Ring.{mul-zero, mul-swap, mul_assoc_ℤ, mul_comm, one-mul, sub-mul}
use Rattle.poly_tree.specs.Expansion.{DegreesAtMost, Expansion, HasTop, IsCanonical, Parts, none, over, part, parts_value, scaled, value, weight, zero_expansion}
use Rattle.poly_tree.proofs.AffineLemmas.{degrees-more}
use Rattle.poly_tree.proofs.Products.{canonical-scaled, value-scaled, weight-scaled}
use Rattle.poly_tree.proofs.Reduced.{degrees-scaled}
use Rattle.projective.specs.Products.{product_of}
use Rattle.projective.proofs.Times.{product-canonical, product-degrees, product-nonzero, product-value, product-weight, product_tree}

-- ---- a tree in lower variables, times a variable less 1

abbrev pub less_tree : ℕ → Expansion → Expansion
less_tree v t = over v (part (scaled (negsuc 0) t) (part t none))

pub less-value : (v : ℕ) (t : Expansion) (f : ℕ → ℤ) → value (less_tree v t) f ≡ (f v -ℤ pos 1) *ℤ value t f
less-value v t f =
    ap (λ (z : ℤ). z +ℤ (f v *ℤ (value t f +ℤ (f v *ℤ pos 0)))) (value-scaled (negsuc 0) t f)
    ∙ total (value t f) (f v) (negsuc 0 *ℤ value t f) (pos 1 *ℤ value t f) (f v *ℤ (value t f +ℤ (f v *ℤ pos 0))) (f v *ℤ value t f) (minus (value t f)) (one-mul (value t f))
    (ap (λ (z : ℤ). f v *ℤ z) (none_more (value t f) (f v *ℤ pos 0) (mul-zero (f v))))
    ∙ sym (sub-mul (f v) (pos 1) (value t f)) where
      none_more : (a b : ℤ) → b ≡ pos 0 → a +ℤ b ≡ a
      none_more a b e = omega (arith, ints)

      minus : (a : ℤ) → negsuc 0 *ℤ a ≡ pos 0 -ℤ a
      minus a = mul_comm (negsuc 0) a ∙ back a where
        back : (b : ℤ) → b *ℤ negsuc 0 ≡ pos 0 -ℤ b
        back b = omega (arith, ints)

      total : (a x m u s r : ℤ) → m ≡ pos 0 -ℤ a → u ≡ a → s ≡ r → m +ℤ s ≡ r -ℤ u
      total a x m u s r e g h = omega (arith, ints)

module _ (v : ℕ) (vs : List ℕ) (below : AllByRecursion (λ (w : ℕ). w < v) vs) where
  abbrev tree : Expansion
  tree = product_tree vs

  pub less-canonical : (bound : ℕ) → v < bound → IsCanonical bound (less_tree v tree)
  less-canonical bound inside = (inside, (canonical-scaled v (negsuc 0) tree (λ e. let same : negsuc 0 ≡ pos 0 = e in cc) canonical, (canonical, tt)), product-nonzero vs) where
    canonical : IsCanonical v tree
    canonical = product-canonical v vs below

pub less-degrees : (v : ℕ) (vs : List ℕ) → DegreesAtMost (suc (length vs)) (less_tree v (product_tree vs))
less-degrees v vs = (omega arith, (degrees-scaled (suc (length vs)) (negsuc 0) (product_tree vs) more, (more, tt))) where
  more : DegreesAtMost (suc (length vs)) (product_tree vs)
  more = degrees-more (length vs) (suc (length vs)) (product_tree vs) (omega arith) (product-degrees vs)

pub less-weight : (v : ℕ) (vs : List ℕ) → weight (less_tree v (product_tree vs)) ≡ 2
less-weight v vs =
    ap (λ (n : ℕ). n + (weight (product_tree vs) + 0)) (weight-scaled (negsuc 0) (product_tree vs)) ∙ ap (λ (n : ℕ). (1 * n) + (n + 0)) (product-weight vs)

-- ---- times variables that aren't lower than its own

-- a polynomial in a variable, by the variable and its parts
abbrev Topped : Type 0
Topped = ℕ × Parts

abbrev tree_of : Topped → Expansion
tree_of top = over top.0 top.1

-- times a variable, by whether it is its own
abbrev raise_by : Bool → ℕ → Topped → Topped
raise_by true v top = (top.0, part zero_expansion top.1)
raise_by false v top = (v, part zero_expansion (part (tree_of top) none))

abbrev raise : ℕ → Topped → Topped
raise v top = raise_by (top.0 == v) v top

-- What is kept where a product of variables is multiplied: its value, and that it is canonical, of few degrees and light.
record IsTopped (top : Topped) (bound degree heavy : ℕ) : Type 0 where
  pub canonical : IsCanonical bound (tree_of top)
  pub degrees : DegreesAtMost degree (tree_of top)
  pub weight : weight (tree_of top) ≡ heavy

raise-value : (v : ℕ) (top : Topped) (f : ℕ → ℤ) → value (tree_of (raise v top)) f ≡ f v *ℤ value (tree_of top) f
raise-value v top f = by (top.0 == v) refl where
  front : (z : ℤ) → pos 0 +ℤ z ≡ z
  front z = omega (arith, ints)

  last : (y z : ℤ) → z ≡ pos 0 → y +ℤ z ≡ y
  last y z e = omega (arith, ints)

  by : (b : Bool) → (top.0 == v) ≡ b → value (tree_of (raise_by b v top)) f ≡ f v *ℤ value (tree_of top) f
  by true e = front (f top.0 *ℤ parts_value top.1 (f top.0) f) ∙ ap (λ (u : ℕ). f u *ℤ parts_value top.1 (f top.0) f) (eqb-true top.0 v e)
  by false e =
      front (f v *ℤ (value (tree_of top) f +ℤ (f v *ℤ pos 0))) ∙ ap (λ (z : ℤ). f v *ℤ z) (last (value (tree_of top) f) (f v *ℤ pos 0) (mul-zero (f v)))

raise-kept : (v : ℕ) (top : Topped) (bound degree heavy : ℕ) → v < bound → top.0 ≤ v → IsTopped top bound degree heavy → IsTopped (raise v top) bound (suc degree) heavy
raise-kept v top bound degree heavy inside lower h = by (top.0 == v) refl where
  more : DegreesAtMost (suc degree) (tree_of top)
  more = degrees-more degree (suc degree) (tree_of top) (omega arith) h.degrees

  apart : (top.0 == v) ≡ false → top.0 < v
  apart e = grind (arith, nat_tests, e, lower)

  behind_zero : (ps : Parts) → HasTop ps → HasTop (part zero_expansion ps)
  behind_zero none g = g
  behind_zero (part t none) g = absurd g
  behind_zero (part t (part u ps)) g = g

  by : (b : Bool) → (top.0 == v) ≡ b → IsTopped (raise_by b v top) bound (suc degree) heavy
  by true e = record { canonical = (h.canonical.0, (tt, h.canonical.1), behind_zero top.1 h.canonical.2); degrees = (omega (arith, h.degrees.0), (tt, more.1)); weight = omega (arith, h.weight) }
  by false e = record {
    canonical = (inside, (tt, ((apart e, h.canonical.1, h.canonical.2), tt)), λ same. cc);
    degrees = (omega arith, (tt, (more, tt)));
    weight = omega (arith, h.weight);
  }

raise-top : (v : ℕ) (top : Topped) → top.0 ≤ v → (raise v top).0 ≤ v
raise-top v top lower = by (top.0 == v) where
  by : (b : Bool) → (raise_by b v top).0 ≤ v
  by true = lower
  by false = omega arith

-- all of some variables, of which each isn't lower than those behind it
abbrev raise_all : List ℕ → Topped → Topped
raise_all [] top = top
raise_all (v ∷ vs) top = raise v (raise_all vs top)

abbrev AreFalling : List ℕ → Type 0
AreFalling [] = Unit {0}
AreFalling (v ∷ vs) = AllByRecursion (λ (w : ℕ). w ≤ v) vs × AreFalling vs

all-value : (vs : List ℕ) (top : Topped) (f : ℕ → ℤ) → value (tree_of (raise_all vs top)) f ≡ product_of vs f *ℤ value (tree_of top) f
all-value [] top f = sym (one-mul (value (tree_of top) f))
all-value (v ∷ vs) top f =
    raise-value v (raise_all vs top) f ∙ ap (λ (z : ℤ). f v *ℤ z) (all-value vs top f) ∙ sym (mul_assoc_ℤ (f v) (product_of vs f) (value (tree_of top) f))

all-top : (vs : List ℕ) (top : Topped) (v : ℕ) → AllByRecursion (λ (w : ℕ). w ≤ v) vs → AreFalling vs → top.0 ≤ v → AllByRecursion (λ (w : ℕ). top.0 ≤ w) vs → (raise_all vs top).0 ≤ v
all-top [] top v most falls lower above = lower
all-top (w ∷ vs) top v most falls lower above =
    let here = raise-top w (raise_all vs top) (all-top vs top w falls.0 falls.1 above.0 above.1) in omega (arith, here, most.0)

all-kept : (vs : List ℕ) (top : Topped) (bound degree heavy : ℕ) → AllByRecursion (λ (w : ℕ). w < bound) vs → AreFalling vs → AllByRecursion (λ (w : ℕ). top.0 ≤ w) vs → IsTopped top bound degree heavy
    → IsTopped (raise_all vs top) bound (length vs + degree) heavy
all-kept [] top bound degree heavy inside falls above h = subst (λ (n : ℕ). IsTopped top bound n heavy) (omega arith) h
all-kept (v ∷ vs) top bound degree heavy inside falls above h =
    subst (λ (n : ℕ). IsTopped (raise_all (v ∷ vs) top) bound n heavy) (omega arith)
    (raise-kept v (raise_all vs top) bound (length vs + degree) heavy inside.0 (all-top vs top v falls.0 falls.1 above.0 above.1)
    (all-kept vs top bound degree heavy inside.1 falls.1 above.1 h))

-- ---- variables in their order

abbrev insert : ℕ → List ℕ → List ℕ
insert v [] = v ∷ []
insert v (w ∷ ws) = if nat_lt v w then w ∷ insert v ws else v ∷ (w ∷ ws)

insert-all : (P : ℕ → Type 0) (v : ℕ) (ws : List ℕ) → P v → AllByRecursion P ws → AllByRecursion P (insert v ws)
insert-all P v [] p h = (p, tt)
insert-all P v (w ∷ ws) p h = by (nat_lt v w) (insert-all P v ws p h.1) where
  by : (b : Bool) → AllByRecursion P (insert v ws) → AllByRecursion P (if b then w ∷ insert v ws else v ∷ (w ∷ ws))
  by true rest = (h.0, rest)
  by false rest = (p, h)

insert-falls : (v : ℕ) (ws : List ℕ) → AreFalling ws → AreFalling (insert v ws)
insert-falls v [] h = (tt, tt)
insert-falls v (w ∷ ws) h = by (nat_lt v w) refl (insert-falls v ws h.1) where
  less : nat_lt v w ≡ true → v ≤ w
  less e = grind (arith, nat_tests, e)

  more : nat_lt v w ≡ false → w ≤ v
  more e = grind (arith, nat_tests, e)

  farther : w ≤ v → (us : List ℕ) → AllByRecursion (λ (u : ℕ). u ≤ w) us → AllByRecursion (λ (u : ℕ). u ≤ v) us
  farther le [] g = tt
  farther le (u ∷ us) g = (omega (arith, g.0, le), farther le us g.1)

  by : (b : Bool) → nat_lt v w ≡ b → AreFalling (insert v ws) → AreFalling (if b then w ∷ insert v ws else v ∷ (w ∷ ws))
  by true e rest = (insert-all (λ (u : ℕ). u ≤ w) v ws (less e) h.0, rest)
  by false e rest = ((more e, farther (more e) ws h.0), h)

insert-many : (v : ℕ) (ws : List ℕ) → length (insert v ws) ≡ suc (length ws)
insert-many v [] = refl
insert-many v (w ∷ ws) = by (nat_lt v w) (insert-many v ws) where
  by : (b : Bool) → length (insert v ws) ≡ suc (length ws) → length (if b then w ∷ insert v ws else v ∷ (w ∷ ws)) ≡ suc (suc (length ws))
  by true rest = ap suc rest
  by false rest = refl

insert-value : (v : ℕ) (ws : List ℕ) (f : ℕ → ℤ) → product_of (insert v ws) f ≡ f v *ℤ product_of ws f
insert-value v [] f = refl
insert-value v (w ∷ ws) f = by (nat_lt v w) (insert-value v ws f) where
  by : (b : Bool) → product_of (insert v ws) f ≡ f v *ℤ product_of ws f → product_of (if b then w ∷ insert v ws else v ∷ (w ∷ ws)) f ≡ f v *ℤ (f w *ℤ product_of ws f)
  by true rest = ap (λ (z : ℤ). f w *ℤ z) rest ∙ mul-swap (f w) (f v) (product_of ws f)
  by false rest = refl

-- those that are lower than one, and the others in their order
abbrev lows : ℕ → List ℕ → List ℕ
lows p [] = []
lows p (v ∷ vs) = if nat_lt v p then v ∷ lows p vs else lows p vs

abbrev highs : ℕ → List ℕ → List ℕ
highs p [] = []
highs p (v ∷ vs) = if nat_lt v p then highs p vs else insert v (highs p vs)

record AreParted (p bound : ℕ) (vs ls hs : List ℕ) : Type 0 where
  pub low : AllByRecursion (λ (v : ℕ). v < p) ls
  pub high : AllByRecursion (λ (v : ℕ). p ≤ v) hs
  pub inside : AllByRecursion (λ (v : ℕ). v < bound) hs
  pub falls : AreFalling hs
  pub many : length hs + length ls ≡ length vs
  pub value : (f : ℕ → ℤ) → product_of hs f *ℤ product_of ls f ≡ product_of vs f

parts-of : (p bound : ℕ) (vs : List ℕ) → AllByRecursion (λ (v : ℕ). v < bound) vs → AreParted p bound vs (lows p vs) (highs p vs)
parts-of p bound [] h = record { low = tt; high = tt; inside = tt; falls = tt; many = refl; value = λ f. refl }
parts-of p bound (v ∷ vs) h = by (nat_lt v p) refl (parts-of p bound vs h.1) where
  less : nat_lt v p ≡ true → v < p
  less e = grind (arith, nat_tests, e)

  more : nat_lt v p ≡ false → p ≤ v
  more e = grind (arith, nat_tests, e)

  by : (b : Bool) → nat_lt v p ≡ b → AreParted p bound vs (lows p vs) (highs p vs)
      → AreParted p bound (v ∷ vs) (if b then v ∷ lows p vs else lows p vs) (if b then highs p vs else insert v (highs p vs))
  by true e g = record {
    low = (less e, g.low);
    high = g.high;
    inside = g.inside;
    falls = g.falls;
    many = omega (arith, g.many);
    value = λ f. mul-swap (product_of (highs p vs) f) (f v) (product_of (lows p vs) f) ∙ ap (λ (z : ℤ). f v *ℤ z) (g.value f);
  }
  by false e g = record {
    low = g.low;
    high = insert-all (λ (w : ℕ). p ≤ w) v (highs p vs) (more e) g.high;
    inside = insert-all (λ (w : ℕ). w < bound) v (highs p vs) h.0 g.inside;
    falls = insert-falls v (highs p vs) g.falls;
    many = omega (arith, insert-many v (highs p vs), g.many);
    value = λ f. ap (λ (z : ℤ). z *ℤ product_of (lows p vs) f) (insert-value v (highs p vs) f)
        ∙ mul_assoc_ℤ (f v) (product_of (highs p vs) f) (product_of (lows p vs) f) ∙ ap (λ (z : ℤ). f v *ℤ z) (g.value f);
  }

-- ---- the product

-- The product of variables times another one less 1.
abbrev pub lowered_tree : ℕ → List ℕ → Expansion
lowered_tree p vs = tree_of (raise_all (highs p vs) (p, part (scaled (negsuc 0) (product_tree (lows p vs))) (part (product_tree (lows p vs)) none)))

module _ (p bound : ℕ) (vs : List ℕ) (below : AllByRecursion (λ (v : ℕ). v < bound) vs) (inside : p < bound) where
  abbrev base : Topped
  base = (p, part (scaled (negsuc 0) (product_tree (lows p vs))) (part (product_tree (lows p vs)) none))

  are : AreParted p bound vs (lows p vs) (highs p vs)
  are = parts-of p bound vs below

  pub lowered-value : (f : ℕ → ℤ) → value (lowered_tree p vs) f ≡ (f p -ℤ pos 1) *ℤ product_of vs f
  lowered-value f =
      all-value (highs p vs) base f ∙ ap (λ (z : ℤ). product_of (highs p vs) f *ℤ z) (less-value p (product_tree (lows p vs)) f)
      ∙ mul-swap (product_of (highs p vs) f) (f p -ℤ pos 1) (value (product_tree (lows p vs)) f)
      ∙ ap (λ (z : ℤ). (f p -ℤ pos 1) *ℤ (product_of (highs p vs) f *ℤ z)) (product-value (lows p vs) f)
      ∙ ap (λ (z : ℤ). (f p -ℤ pos 1) *ℤ z) (are.value f)

  topped : IsTopped (raise_all (highs p vs) base) bound (length (highs p vs) + suc (length (lows p vs))) 2
  topped =
      all-kept (highs p vs) base bound (suc (length (lows p vs))) 2 are.inside are.falls are.high
      (record { canonical = less-canonical p (lows p vs) are.low bound inside; degrees = less-degrees p (lows p vs); weight = less-weight p (lows p vs) })

  pub lowered-canonical : IsCanonical bound (lowered_tree p vs)
  lowered-canonical = topped.canonical

  pub lowered-degrees : (d : ℕ) → suc (length vs) ≤ d → DegreesAtMost d (lowered_tree p vs)
  lowered-degrees d few = degrees-more (length (highs p vs) + suc (length (lows p vs))) d (lowered_tree p vs) (omega (arith, are.many, few)) topped.degrees

  pub lowered-weight : weight (lowered_tree p vs) ≡ 2
  lowered-weight = topped.weight
