-- Sums of multiples.
use Rattle.std.proofs.Common.{◌≡◌, ◌≢◌, ℕ, zero, suc, ◌+◌, ◌*◌, ◌<◌, ◌≤◌, ◌^◌, max, min, arith, subst, sym, ◌∙◌, ap, inl, inr, ◌⊎◌, ◌-◌, mul-le-mul}
use Rattle.std.proofs.Math.Nat.{mul_assoc, pow-zero, pow-succ'}
use Rattle.std.proofs.Math.IntN.{ℤ, pos, ◌+ℤ◌, ◌*ℤ◌, neg_ℤ}
use Rattle.base_laws.proofs.Ring.{mul_assoc_ℤ, mul_comm, mul-neg}
use Rattle.poly_tree.specs.Expansion.{Expansion, at, scaled, value, IsSum, IsProduct, IsLinear, IsCanonical, DegreesAtMost}
use Rattle.poly_tree.specs.Poly.{Quotient, numerator_at, IsReduced, IsProductOf, IsCombinationOf, IsDifferenceOf}
use Rattle.poly_tree.proofs.Products.{value-scaled, canonical-scaled}
use Rattle.poly_tree.proofs.Reduced.{degrees-scaled}

pub linear-from : (j k : ℤ) (a b x y t : Expansion) → j ≢ pos 0 → k ≢ pos 0 → x ≡ scaled j a → y ≡ scaled k b → IsSum x y t → IsLinear j a k b t
linear-from j k a b x y t p q e f s = record {
  sum = λ point. s.sum point
      ∙ ap (λ (u : Expansion). value u point +ℤ value y point) e ∙ ap (λ (u : Expansion). value (scaled j a) point +ℤ value u point) f
      ∙ ap (λ (z : ℤ). z +ℤ value (scaled k b) point) (value-scaled j a point) ∙ ap (λ (z : ℤ). (j *ℤ value a point) +ℤ z) (value-scaled k b point);
  canonical = λ bound ca cb. s.canonical bound (subst (IsCanonical bound) (sym e) (canonical-scaled bound j a p ca)) (subst (IsCanonical bound) (sym f) (canonical-scaled bound k b q cb));
  degrees = λ d da db. s.degrees d (subst (DegreesAtMost d) (sym e) (degrees-scaled d j a da)) (subst (DegreesAtMost d) (sym f) (degrees-scaled d k b db));
}

-- numbers that are capped, multiplied and capped
pub capped : (x y limit : ℕ) → 1 ≤ x → 1 ≤ y → min (min x limit * min y limit) limit ≡ min (x * y) limit
capped x y limit p q = by (cut x) (cut y) where
  cut : (z : ℕ) → ((z ≤ limit) × (min z limit ≡ z)) ⊎ ((limit ≤ z) × (min z limit ≡ limit))
  cut z = grind arith

  room : (a b : ℕ) → limit ≤ a → 1 ≤ b → limit ≤ a * b
  room a b h some = let k : limit * 1 ≤ a * b = mul-le-mul h some in omega arith

  full : (a : ℕ) → limit ≤ a → min a limit ≡ limit
  full a h = omega arith

  turned : (a b : ℕ) → limit ≤ b * a → limit ≤ a * b
  turned a b h = omega arith

  squared : (n : ℕ) → n ≤ n * n
  squared zero = omega arith
  squared (suc n) = omega arith

  by : ((x ≤ limit) × (min x limit ≡ x)) ⊎ ((limit ≤ x) × (min x limit ≡ limit)) → ((y ≤ limit) × (min y limit ≡ y)) ⊎ ((limit ≤ y) × (min y limit ≡ limit))
      → min (min x limit * min y limit) limit ≡ min (x * y) limit
  by (inl a) (inl b) = ap (λ (n : ℕ). min (n * min y limit) limit) a.1 ∙ ap (λ (n : ℕ). min (x * n) limit) b.1
  by (inr a) (inl b) = ap (λ (n : ℕ). min (n * min y limit) limit) a.1 ∙ ap (λ (n : ℕ). min (limit * n) limit) b.1 ∙ full (limit * y) (room limit y (omega arith) q) ∙ sym (full (x * y) (room x y a.0 q))
  by (inl a) (inr b) = ap (λ (n : ℕ). min (n * min y limit) limit) a.1 ∙ ap (λ (n : ℕ). min (x * n) limit) b.1 ∙ full (x * limit) (turned x limit (room limit x (omega arith) p)) ∙ sym (full (x * y) (turned x y (room y x b.0 p)))
  by (inr a) (inr b) = ap (λ (n : ℕ). min (n * min y limit) limit) a.1 ∙ ap (λ (n : ℕ). min (limit * n) limit) b.1 ∙ full (limit * limit) (squared limit) ∙ sym (full (x * y) (room x y a.0 q))

-- sizes that are small leave room for both multiples
pub linear-room : (wa wb da db limit : ℕ) → 1 ≤ da → 1 ≤ db → (max 1 wa * da) * (max 1 wb * db) < limit → db * wa + da * wb < limit + limit
linear-room wa wb da db limit p q h =
    let first : wa * db ≤ (max 1 wa * da) * (max 1 wb * db) = mul-le-mul (wide wa da (max 1 wa) (omega arith) p) (one (max 1 wb) db (omega arith)) in
    let second : da * wb ≤ (max 1 wa * da) * (max 1 wb * db) = mul-le-mul (one (max 1 wa) da (omega arith)) (wide wb db (max 1 wb) (omega arith) q) in
    omega arith where
      wide : (n k m : ℕ) → n ≤ m → 1 ≤ k → n ≤ m * k
      wide n k m le some = let r : n * 1 ≤ m * k = mul-le-mul le some in omega arith

      one : (k n : ℕ) → 1 ≤ k → n ≤ k * n
      one k n some = let r : 1 * n ≤ k * n = mul-le-mul some (omega arith) in omega arith

-- and for the product of the denominators
pub denominator-room : (wa wb da db limit : ℕ) → (max 1 wa * da) * (max 1 wb * db) < limit → da * db < limit
denominator-room wa wb da db limit h =
    let both : da * db ≤ (max 1 wa * da) * (max 1 wb * db) = mul-le-mul (one (max 1 wa) da (omega arith)) (one (max 1 wb) db (omega arith)) in omega arith where
      one : (k n : ℕ) → 1 ≤ k → n ≤ k * n
      one k n some = let r : 1 * n ≤ k * n = mul-le-mul some (omega arith) in omega arith

-- and for the product of the weights
pub weight-room : (wa wb da db limit : ℕ) → 1 ≤ da → 1 ≤ db → (max 1 wa * da) * (max 1 wb * db) < limit → wa * wb < limit
weight-room wa wb da db limit p q h =
    let both : wa * wb ≤ (max 1 wa * da) * (max 1 wb * db) = mul-le-mul (wide wa da (max 1 wa) (omega arith) p) (wide wb db (max 1 wb) (omega arith) q) in omega arith where
      wide : (n k m : ℕ) → n ≤ m → 1 ≤ k → n ≤ m * k
      wide n k m le some = let r : n * 1 ≤ m * k = mul-le-mul le some in omega arith

-- a size is at least 1
pub size-some : (w d : ℕ) → 1 ≤ d → 1 ≤ max 1 w * d
size-some w d p = some (max 1 w) (omega arith) where
  some : (n : ℕ) → 1 ≤ n → 1 ≤ n * d
  some n q = let r : 1 * 1 ≤ n * d = mul-le-mul q p in omega arith

-- a number whose cap is below a limit is below it
pub below-cap : (n m cap limit : ℕ) → m ≡ min n cap → m < limit → limit ≤ cap → n < limit
below-cap n m cap limit e p q = omega arith

-- the value of what is left without a common factor
pub reduced-value : (t : Expansion) (d : ℕ) (r : Quotient) → IsReduced t d r → (point : ℕ → ℤ)
    → (value r.tree point *ℤ pos d) ≡ (value t point *ℤ pos r.denominator)
reduced-value t d r h point =
    let x = value r.tree point in
    ap (λ (n : ℕ). x *ℤ pos n) (sym h.over)
    ∙ sym (mul_assoc_ℤ x (pos h.factor) (pos r.denominator))
    ∙ ap (λ (z : ℤ). z *ℤ pos r.denominator) (mul_comm x (pos h.factor) ∙ sym (value-scaled (pos h.factor) r.tree point) ∙ ap (λ (u : Expansion). value u point) h.tree)

-- the value of a product
pub product-value : (a b r : Quotient) (t : Expansion) → IsProduct a.tree b.tree t → IsReduced t (a.denominator * b.denominator) r → IsProductOf a b r
product-value a b r t p h point =
    reduced-value t (a.denominator * b.denominator) r h (at point) ∙ ap (λ (z : ℤ). z *ℤ pos r.denominator) (p.product (at point))

-- the value of a sum of multiples
pub combination-value : (a b r : Quotient) (k : ℤ) (t : Expansion) → IsLinear (pos b.denominator) a.tree k b.tree t → IsReduced t (a.denominator * b.denominator) r
    → IsCombinationOf a b k r
combination-value a b r k t p h point =
    let x = value a.tree (at point) in
    let y = value b.tree (at point) in
    reduced-value t (a.denominator * b.denominator) r h (at point)
    ∙ ap (λ (z : ℤ). z *ℤ pos r.denominator) (p.sum (at point) ∙ ap (λ (z : ℤ). z +ℤ (k *ℤ y)) (mul_comm (pos b.denominator) x) ∙ ap (λ (z : ℤ). (x *ℤ pos b.denominator) +ℤ z) (mul_comm k y))

-- the opposite of the first denominator makes a difference
pub difference-value : (a b r : Quotient) (k : ℤ) → k ≡ neg_ℤ (pos a.denominator) → IsCombinationOf a b k r → IsDifferenceOf a b r
difference-value a b r k e h point =
    h point ∙ ap (λ (z : ℤ). ((numerator_at a point *ℤ pos b.denominator) +ℤ z) *ℤ pos r.denominator)
    (ap (λ (z : ℤ). numerator_at b point *ℤ z) e ∙ mul-neg (numerator_at b point) (pos a.denominator))

-- a capped number, multiplied and capped
pub capped-left : (x y limit : ℕ) → 1 ≤ y → min (min x limit * y) limit ≡ min (x * y) limit
capped-left x y limit p = by (cut x) where
  cut : (z : ℕ) → ((z ≤ limit) × (min z limit ≡ z)) ⊎ ((limit ≤ z) × (min z limit ≡ limit))
  cut z = grind arith

  room : (a b : ℕ) → limit ≤ a → 1 ≤ b → limit ≤ a * b
  room a b h some = let k : limit * 1 ≤ a * b = mul-le-mul h some in omega arith

  full : (a : ℕ) → limit ≤ a → min a limit ≡ limit
  full a h = omega arith

  by : ((x ≤ limit) × (min x limit ≡ x)) ⊎ ((limit ≤ x) × (min x limit ≡ limit)) → min (min x limit * y) limit ≡ min (x * y) limit
  by (inl a) = ap (λ (n : ℕ). min (n * y) limit) a.1
  by (inr a) = ap (λ (n : ℕ). min (n * y) limit) a.1 ∙ full (limit * y) (room limit y (omega arith) p) ∙ sym (full (x * y) (room x y a.0 p))

-- a power of a number of at least 1 is at least 1
pub power-some : (b n : ℕ) → 1 ≤ b → 1 ≤ b ^ n
power-some b zero p = omega (arith, pow-zero b)
power-some b (suc n) p = let r : 1 * 1 ≤ b * b ^ n = mul-le-mul p (power-some b n p) in omega (arith, pow-succ' b n)

-- one factor more
pub power-step : (product base left number limit m : ℕ) → 1 ≤ base → 1 ≤ left → min (product * base ^ left) limit ≡ m
    → min (min (product * base) limit * base ^ (left - 1)) limit ≡ m
power-step product base zero number limit m p q h = absurd (omega arith)
power-step product base (suc left) number limit m p q h =
    ap (λ (n : ℕ). min (min (product * base) limit * base ^ n) limit) (one left)
    ∙ capped-left (product * base) (base ^ left) limit (power-some base left p)
    ∙ ap (λ (n : ℕ). min n limit) (mul_assoc product base (base ^ left) ∙ ap (λ (n : ℕ). product * n) (sym (pow-succ' base left))) ∙ h where
      one : (n : ℕ) → suc n - 1 ≡ n
      one n = omega arith
