-- The whole numbers are a commutative ring, and products of numbers of at least 0 are at least 0.
use Rattle.std.proofs.Common.{◌≡◌, refl, sym, ◌∙◌, ap, ℕ, zero, suc, arith}
use Rattle.std.proofs.lemmas.Int.{ints}
use Rattle.std.proofs.Math.IntN.{ℤ, pos, negsuc, ◌+ℤ◌, ◌-ℤ◌, ◌*ℤ◌, neg_ℤ, suc_ℤ-*ℤ, pred_ℤ-*ℤ, *ℤ_comm, suc_ℤ-+ℤ, pred_ℤ-+ℤ, +ℤ_one, -ℤ_one, zero-*ℤ, *ℤ-zero, ℤ_ind, +ℤ_idl}
use lib.Signed.{◌≤ℤ◌}

pub add_comm : (x y : ℤ) → x +ℤ y ≡ y +ℤ x
add_comm x y = omega (arith, ints)

-- the last of three goes before the second
pub add_turn : (x y z : ℤ) → (x +ℤ y) +ℤ z ≡ (x +ℤ z) +ℤ y
add_turn x y z = omega (arith, ints)

-- two sums added: first with first, second with second
pub add_pairs : (a b c d : ℤ) → (a +ℤ b) +ℤ (c +ℤ d) ≡ (a +ℤ c) +ℤ (b +ℤ d)
add_pairs a b c d = omega (arith, ints)

pub mul_comm : (x y : ℤ) → x *ℤ y ≡ y *ℤ x
mul_comm = *ℤ_comm

-- a product of a sum is the sum of the products
pub add-mul : (a b c : ℤ) → (a +ℤ b) *ℤ c ≡ (a *ℤ c) +ℤ (b *ℤ c)
add-mul a b c = ℤ_ind (λ (x : ℤ). (x +ℤ b) *ℤ c ≡ (x *ℤ c) +ℤ (b *ℤ c)) start up down a where
  start : (pos 0 +ℤ b) *ℤ c ≡ (pos 0 *ℤ c) +ℤ (b *ℤ c)
  start = ap (λ (z : ℤ). z *ℤ c) (+ℤ_idl b) ∙ sym (+ℤ_idl (b *ℤ c)) ∙ ap (λ (z : ℤ). z +ℤ (b *ℤ c)) (sym (zero-*ℤ c))

  up : (n : ℕ) → (pos n +ℤ b) *ℤ c ≡ (pos n *ℤ c) +ℤ (b *ℤ c) → ((pos n +ℤ pos 1) +ℤ b) *ℤ c ≡ ((pos n +ℤ pos 1) *ℤ c) +ℤ (b *ℤ c)
  up n h = ap (λ (z : ℤ). (z +ℤ b) *ℤ c) (+ℤ_one (pos n)) ∙ ap (λ (z : ℤ). z *ℤ c) (suc_ℤ-+ℤ (pos n) b) ∙ suc_ℤ-*ℤ (pos n +ℤ b) c
      ∙ ap (λ (z : ℤ). z +ℤ c) h ∙ add_turn (pos n *ℤ c) (b *ℤ c) c
      ∙ ap (λ (z : ℤ). z +ℤ (b *ℤ c)) (sym (suc_ℤ-*ℤ (pos n) c) ∙ ap (λ (z : ℤ). z *ℤ c) (sym (+ℤ_one (pos n))))

  down : (n : ℕ) → (neg_ℤ (pos n) +ℤ b) *ℤ c ≡ (neg_ℤ (pos n) *ℤ c) +ℤ (b *ℤ c) → ((neg_ℤ (pos n) +ℤ neg_ℤ (pos 1)) +ℤ b) *ℤ c ≡ ((neg_ℤ (pos n) +ℤ neg_ℤ (pos 1)) *ℤ c) +ℤ (b *ℤ c)
  down n h = ap (λ (z : ℤ). (z +ℤ b) *ℤ c) (-ℤ_one (neg_ℤ (pos n))) ∙ ap (λ (z : ℤ). z *ℤ c) (pred_ℤ-+ℤ (neg_ℤ (pos n)) b) ∙ pred_ℤ-*ℤ (neg_ℤ (pos n) +ℤ b) c
      ∙ ap (λ (z : ℤ). z -ℤ c) h ∙ add_turn (neg_ℤ (pos n) *ℤ c) (b *ℤ c) (neg_ℤ c)
      ∙ ap (λ (z : ℤ). z +ℤ (b *ℤ c)) (sym (pred_ℤ-*ℤ (neg_ℤ (pos n)) c) ∙ ap (λ (z : ℤ). z *ℤ c) (sym (-ℤ_one (neg_ℤ (pos n)))))

pub mul-add : (a b c : ℤ) → a *ℤ (b +ℤ c) ≡ (a *ℤ b) +ℤ (a *ℤ c)
mul-add a b c = *ℤ_comm a (b +ℤ c) ∙ add-mul b c a ∙ ap (λ (z : ℤ). z +ℤ (c *ℤ a)) (*ℤ_comm b a) ∙ ap (λ (z : ℤ). (a *ℤ b) +ℤ z) (*ℤ_comm c a)

pub zero-mul : (a : ℤ) → pos 0 *ℤ a ≡ pos 0
zero-mul = zero-*ℤ

pub mul-zero : (a : ℤ) → a *ℤ pos 0 ≡ pos 0
mul-zero = *ℤ-zero

pub one-mul : (a : ℤ) → pos 1 *ℤ a ≡ a
one-mul a = suc_ℤ-*ℤ (pos 0) a ∙ ap (λ (z : ℤ). z +ℤ a) (zero-*ℤ a) ∙ +ℤ_idl a

pub mul-one : (a : ℤ) → a *ℤ pos 1 ≡ a
mul-one a = *ℤ_comm a (pos 1) ∙ one-mul a

-- the opposite of a product
pub neg-mul : (a b : ℤ) → neg_ℤ a *ℤ b ≡ neg_ℤ (a *ℤ b)
neg-mul a b = opposite (a *ℤ b) (neg_ℤ a *ℤ b) (sym (add-mul a (neg_ℤ a) b) ∙ ap (λ (z : ℤ). z *ℤ b) (cancelled a) ∙ zero-*ℤ b) where
  cancelled : (x : ℤ) → x +ℤ neg_ℤ x ≡ pos 0
  cancelled x = omega (arith, ints)

  opposite : (x y : ℤ) → x +ℤ y ≡ pos 0 → y ≡ neg_ℤ x
  opposite x y h = omega (arith, ints)

pub mul-neg : (a b : ℤ) → a *ℤ neg_ℤ b ≡ neg_ℤ (a *ℤ b)
mul-neg a b = *ℤ_comm a (neg_ℤ b) ∙ neg-mul b a ∙ ap neg_ℤ (*ℤ_comm b a)

pub sub-mul : (a b c : ℤ) → (a -ℤ b) *ℤ c ≡ (a *ℤ c) -ℤ (b *ℤ c)
sub-mul a b c = add-mul a (neg_ℤ b) c ∙ ap (λ (z : ℤ). (a *ℤ c) +ℤ z) (neg-mul b c)

pub mul-sub : (a b c : ℤ) → a *ℤ (b -ℤ c) ≡ (a *ℤ b) -ℤ (a *ℤ c)
mul-sub a b c = mul-add a b (neg_ℤ c) ∙ ap (λ (z : ℤ). (a *ℤ b) +ℤ z) (mul-neg a c)

pub mul_assoc_ℤ : (a b c : ℤ) → (a *ℤ b) *ℤ c ≡ a *ℤ (b *ℤ c)
mul_assoc_ℤ a b c = ℤ_ind (λ (x : ℤ). (x *ℤ b) *ℤ c ≡ x *ℤ (b *ℤ c)) start up down a where
  start : (pos 0 *ℤ b) *ℤ c ≡ pos 0 *ℤ (b *ℤ c)
  start = ap (λ (z : ℤ). z *ℤ c) (zero-*ℤ b) ∙ zero-*ℤ c ∙ sym (zero-*ℤ (b *ℤ c))

  step : (x y : ℤ) → (x *ℤ b) *ℤ c ≡ x *ℤ (b *ℤ c) → (y *ℤ b) *ℤ c ≡ y *ℤ (b *ℤ c) → ((x +ℤ y) *ℤ b) *ℤ c ≡ (x +ℤ y) *ℤ (b *ℤ c)
  step x y p q = ap (λ (z : ℤ). z *ℤ c) (add-mul x y b) ∙ add-mul (x *ℤ b) (y *ℤ b) c ∙ ap (λ (z : ℤ). z +ℤ ((y *ℤ b) *ℤ c)) p
      ∙ ap (λ (z : ℤ). (x *ℤ (b *ℤ c)) +ℤ z) q ∙ sym (add-mul x y (b *ℤ c))

  unit : (pos 1 *ℤ b) *ℤ c ≡ pos 1 *ℤ (b *ℤ c)
  unit = ap (λ (z : ℤ). z *ℤ c) (one-mul b) ∙ sym (one-mul (b *ℤ c))

  minus : (neg_ℤ (pos 1) *ℤ b) *ℤ c ≡ neg_ℤ (pos 1) *ℤ (b *ℤ c)
  minus = ap (λ (z : ℤ). z *ℤ c) (neg-mul (pos 1) b ∙ ap neg_ℤ (one-mul b)) ∙ neg-mul b c ∙ ap neg_ℤ (sym (one-mul (b *ℤ c))) ∙ sym (neg-mul (pos 1) (b *ℤ c))

  up : (n : ℕ) → (pos n *ℤ b) *ℤ c ≡ pos n *ℤ (b *ℤ c) → ((pos n +ℤ pos 1) *ℤ b) *ℤ c ≡ (pos n +ℤ pos 1) *ℤ (b *ℤ c)
  up n h = step (pos n) (pos 1) h unit

  down : (n : ℕ) → (neg_ℤ (pos n) *ℤ b) *ℤ c ≡ neg_ℤ (pos n) *ℤ (b *ℤ c) → ((neg_ℤ (pos n) +ℤ neg_ℤ (pos 1)) *ℤ b) *ℤ c ≡ (neg_ℤ (pos n) +ℤ neg_ℤ (pos 1)) *ℤ (b *ℤ c)
  down n h = step (neg_ℤ (pos n)) (neg_ℤ (pos 1)) h minus

-- the last of three factors goes before the second
pub mul_turn : (a b c : ℤ) → (a *ℤ b) *ℤ c ≡ (a *ℤ c) *ℤ b
mul_turn a b c = mul_assoc_ℤ a b c ∙ ap (λ (z : ℤ). a *ℤ z) (*ℤ_comm b c) ∙ sym (mul_assoc_ℤ a c b)

-- the second of three factors goes before the first
pub mul-swap : (a b c : ℤ) → a *ℤ (b *ℤ c) ≡ b *ℤ (a *ℤ c)
mul-swap a b c = sym (mul_assoc_ℤ a b c) ∙ ap (λ (z : ℤ). z *ℤ c) (*ℤ_comm a b) ∙ mul_assoc_ℤ b a c

-- two sums that begin alike, and are the same with one number more, end alike
pub sums-cancel : (a b p x y c : ℤ) → a ≡ p +ℤ x → b ≡ p +ℤ y → a +ℤ c ≡ b +ℤ c → x ≡ y
sums-cancel a b p x y c e f g = omega (arith, ints)

-- a product of numbers of at least 0 is at least 0
pub mul-nonneg : (a b : ℤ) → pos 0 ≤ℤ a → pos 0 ≤ℤ b → pos 0 ≤ℤ (a *ℤ b)
mul-nonneg (pos m) (pos n) p q = search (arith, ints)
mul-nonneg (pos m) (negsuc n) p q = absurd (omega (arith, ints))
mul-nonneg (negsuc m) b p q = absurd (omega (arith, ints))

-- a factor that isn't 0 cancels
pub mul-cancel : (n : ℕ) (a b : ℤ) → pos (suc n) *ℤ a ≡ pos (suc n) *ℤ b → a ≡ b
mul-cancel n a b h = same (none (a -ℤ b) (mul-sub (pos (suc n)) a b ∙ difference (pos (suc n) *ℤ a) (pos (suc n) *ℤ b) h)) where
  difference : (x y : ℤ) → x ≡ y → x -ℤ y ≡ pos 0
  difference x y e = omega (arith, ints)

  none : (z : ℤ) → pos (suc n) *ℤ z ≡ pos 0 → z ≡ pos 0
  none (pos zero) e = refl
  none (pos (suc k)) e = absurd (grind (arith, ints))
  none (negsuc k) e = absurd (grind (arith, ints))

  same : a -ℤ b ≡ pos 0 → a ≡ b
  same e = omega (arith, ints)
