-- Values over denominators, and their differences.
use Rattle.std.proofs.Common.{◌≡◌, refl, sym, ◌∙◌, ap, ℕ, ◌*◌, ◌≤◌, arith, mul-pos}
use Rattle.std.specs.Prelude.{unsigned_abs}
use Rattle.std.proofs.Math.IntN.{ℤ, pos, negsuc, ◌+ℤ◌, ◌-ℤ◌, ◌*ℤ◌}
use lib.Signed.{◌≤ℤ◌}
use Rattle.std.proofs.lemmas.Int.{ints}
use Rattle.base_laws.proofs.Ring.{add-mul, mul_comm, mul_assoc_ℤ, mul_turn, sub-mul, mul-sub}
use Rattle.domain_count.proofs.Determined.{crossed}
use Rattle.domain_count.proofs.Fractions.{cancelled}

-- a number of at least 1 is its size
pub positive-size : (z : ℤ) → pos 1 ≤ℤ z → (1 ≤ unsigned_abs z) × (pos (unsigned_abs z) ≡ z)
positive-size (pos n) h = (omega (arith, ints), refl)
positive-size (negsuc n) h = absurd (omega (arith, ints))

-- two values over their denominators that are one number over two numbers
pub crossed-over : (d c i j : ℕ) (x y m n : ℤ) → 1 ≤ d → 1 ≤ c → x *ℤ pos d ≡ m *ℤ pos i → y *ℤ pos c ≡ n *ℤ pos j → m *ℤ pos c ≡ n *ℤ pos d → x *ℤ pos j ≡ y *ℤ pos i
crossed-over d c i j x y m n some other p q e =
    crossed (d * c) i j x y (m *ℤ pos c) (mul-pos some other)
    (sym (mul_assoc_ℤ x (pos d) (pos c)) ∙ ap (λ (z : ℤ). z *ℤ pos c) p ∙ mul_turn m (pos i) (pos c))
    (sym (mul_assoc_ℤ y (pos d) (pos c)) ∙ mul_turn y (pos d) (pos c) ∙ ap (λ (z : ℤ). z *ℤ pos d) q ∙ mul_turn n (pos j) (pos d) ∙ ap (λ (z : ℤ). z *ℤ pos j) (sym e))

-- the difference of a row's values, from that of its numerators
pub row-difference : (d r : ℕ) (h before v old z : ℤ) → 1 ≤ d → h *ℤ pos d ≡ v *ℤ pos r → before *ℤ pos d ≡ old *ℤ pos r → v -ℤ old ≡ pos d *ℤ z
    → h -ℤ before ≡ z *ℤ pos r
row-difference d r h before v old z some p q e =
    cancelled d (h -ℤ before) (z *ℤ pos r) some
    (sub-mul h before (pos d) ∙ ap (λ (x : ℤ). x -ℤ (before *ℤ pos d)) p ∙ ap (λ (x : ℤ). (v *ℤ pos r) -ℤ x) q ∙ sym (sub-mul v old (pos r))
    ∙ ap (λ (x : ℤ). x *ℤ pos r) (e ∙ mul_comm (pos d) z) ∙ mul_turn z (pos d) (pos r))

-- the difference of a product's values, where one factor keeps its value
pub product-difference : (c r u : ℕ) (m before k h old z t d : ℤ) → 1 ≤ c → 1 ≤ r → m *ℤ pos (c * r) ≡ (k *ℤ h) *ℤ pos u → before *ℤ pos (c * r) ≡ (k *ℤ old) *ℤ pos u
    → h -ℤ old ≡ z *ℤ pos r → k *ℤ d ≡ t *ℤ pos c → (m -ℤ before) *ℤ d ≡ (t *ℤ z) *ℤ pos u
product-difference c r u m before k h old z t d some other p q e f =
    cancelled c ((m -ℤ before) *ℤ d) ((t *ℤ z) *ℤ pos u) some
    (mul_turn (m -ℤ before) d (pos c) ∙ ap (λ (x : ℤ). x *ℤ d) inner ∙ mul_turn (k *ℤ z) (pos u) d ∙ ap (λ (x : ℤ). x *ℤ pos u) (mul_turn k z d ∙ ap (λ (x : ℤ). x *ℤ z) f ∙ mul_turn t (pos c) z)
    ∙ mul_turn (t *ℤ z) (pos c) (pos u)) where
      whole : (m -ℤ before) *ℤ (pos c *ℤ pos r) ≡ (k *ℤ (z *ℤ pos r)) *ℤ pos u
      whole =
          sub-mul m before (pos c *ℤ pos r) ∙ ap (λ (x : ℤ). x -ℤ (before *ℤ (pos c *ℤ pos r))) p ∙ ap (λ (x : ℤ). ((k *ℤ h) *ℤ pos u) -ℤ x) q
          ∙ sym (sub-mul (k *ℤ h) (k *ℤ old) (pos u)) ∙ ap (λ (x : ℤ). x *ℤ pos u) (sym (mul-sub k h old) ∙ ap (λ (x : ℤ). k *ℤ x) e)

      inner : (m -ℤ before) *ℤ pos c ≡ (k *ℤ z) *ℤ pos u
      inner =
          cancelled r ((m -ℤ before) *ℤ pos c) ((k *ℤ z) *ℤ pos u) other
          (mul_assoc_ℤ (m -ℤ before) (pos c) (pos r) ∙ whole ∙ ap (λ (x : ℤ). x *ℤ pos u) (sym (mul_assoc_ℤ k z (pos r))) ∙ mul_turn (k *ℤ z) (pos r) (pos u))

-- the difference of a sum's values
pub sum-difference : (b c s : ℕ) (g after f old m before d x y : ℤ) → 1 ≤ b → 1 ≤ c
    → g *ℤ pos (b * c) ≡ ((f *ℤ pos c) +ℤ (m *ℤ pos b)) *ℤ pos s → after *ℤ pos (b * c) ≡ ((old *ℤ pos c) +ℤ (before *ℤ pos b)) *ℤ pos s
    → (f -ℤ old) *ℤ d ≡ x *ℤ pos b → (m -ℤ before) *ℤ d ≡ y *ℤ pos c → (g -ℤ after) *ℤ d ≡ (x +ℤ y) *ℤ pos s
sum-difference b c s g after f old m before d x y some other p q e h =
    cancelled b ((g -ℤ after) *ℤ d) ((x +ℤ y) *ℤ pos s) some
    (cancelled c (((g -ℤ after) *ℤ d) *ℤ pos b) (((x +ℤ y) *ℤ pos s) *ℤ pos b) other
    (mul_assoc_ℤ ((g -ℤ after) *ℤ d) (pos b) (pos c) ∙ mul_turn (g -ℤ after) d (pos b *ℤ pos c) ∙ ap (λ (z : ℤ). z *ℤ d) whole
    ∙ mul_turn (((f -ℤ old) *ℤ pos c) +ℤ ((m -ℤ before) *ℤ pos b)) (pos s) d ∙ ap (λ (z : ℤ). z *ℤ pos s) both ∙ mul_turn ((x +ℤ y) *ℤ pos b) (pos c) (pos s)
    ∙ ap (λ (z : ℤ). z *ℤ pos c) (mul_turn (x +ℤ y) (pos b) (pos s)))) where
      lin : ((f *ℤ pos c) +ℤ (m *ℤ pos b)) -ℤ ((old *ℤ pos c) +ℤ (before *ℤ pos b)) ≡ ((f -ℤ old) *ℤ pos c) +ℤ ((m -ℤ before) *ℤ pos b)
      lin =
          let first : (f -ℤ old) *ℤ pos c ≡ (f *ℤ pos c) -ℤ (old *ℤ pos c) = sub-mul f old (pos c) in
          let second : (m -ℤ before) *ℤ pos b ≡ (m *ℤ pos b) -ℤ (before *ℤ pos b) = sub-mul m before (pos b) in
          apart (f *ℤ pos c) (m *ℤ pos b) (old *ℤ pos c) (before *ℤ pos b) ((f -ℤ old) *ℤ pos c) ((m -ℤ before) *ℤ pos b) first second where
            apart : (i j k l u v : ℤ) → u ≡ i -ℤ k → v ≡ j -ℤ l → (i +ℤ j) -ℤ (k +ℤ l) ≡ u +ℤ v
            apart i j k l u v o w = omega (arith, ints)

      whole : (g -ℤ after) *ℤ (pos b *ℤ pos c) ≡ (((f -ℤ old) *ℤ pos c) +ℤ ((m -ℤ before) *ℤ pos b)) *ℤ pos s
      whole =
          sub-mul g after (pos b *ℤ pos c) ∙ ap (λ (z : ℤ). z -ℤ (after *ℤ (pos b *ℤ pos c))) p ∙ ap (λ (z : ℤ). (((f *ℤ pos c) +ℤ (m *ℤ pos b)) *ℤ pos s) -ℤ z) q
          ∙ sym (sub-mul ((f *ℤ pos c) +ℤ (m *ℤ pos b)) ((old *ℤ pos c) +ℤ (before *ℤ pos b)) (pos s)) ∙ ap (λ (z : ℤ). z *ℤ pos s) lin

      both : (((f -ℤ old) *ℤ pos c) +ℤ ((m -ℤ before) *ℤ pos b)) *ℤ d ≡ ((x +ℤ y) *ℤ pos b) *ℤ pos c
      both =
          add-mul ((f -ℤ old) *ℤ pos c) ((m -ℤ before) *ℤ pos b) d
          ∙ ap (λ (z : ℤ). z +ℤ (((m -ℤ before) *ℤ pos b) *ℤ d)) (mul_turn (f -ℤ old) (pos c) d ∙ ap (λ (z : ℤ). z *ℤ pos c) e)
          ∙ ap (λ (z : ℤ). ((x *ℤ pos b) *ℤ pos c) +ℤ z) (mul_turn (m -ℤ before) (pos b) d ∙ ap (λ (z : ℤ). z *ℤ pos b) h ∙ mul_turn y (pos c) (pos b))
          ∙ sym (add-mul (x *ℤ pos b) (y *ℤ pos b) (pos c)) ∙ ap (λ (z : ℤ). z *ℤ pos c) (sym (add-mul x y (pos b)))

-- a backward difference, from the difference of the values
pub backward-value : (s shifted_den own din : ℕ) (here before shifted difference summand : ℤ) → 1 ≤ s → 1 ≤ shifted_den
    → shifted *ℤ pos s ≡ before *ℤ pos shifted_den
    → difference *ℤ pos (s * shifted_den) ≡ ((here *ℤ pos shifted_den) -ℤ (shifted *ℤ pos s)) *ℤ pos own
    → (here -ℤ before) *ℤ pos din ≡ summand *ℤ pos s
    → difference *ℤ pos din ≡ summand *ℤ pos own
backward-value s shifted_den own din here before shifted difference summand p q a b c =
    cancelled s (difference *ℤ pos din) (summand *ℤ pos own) p
    (mul_turn difference (pos din) (pos s) ∙ ap (λ (z : ℤ). z *ℤ pos din) over ∙ mul_turn (here -ℤ before) (pos own) (pos din) ∙ ap (λ (z : ℤ). z *ℤ pos own) c ∙ mul_turn summand (pos s) (pos own)) where
      over : difference *ℤ pos s ≡ (here -ℤ before) *ℤ pos own
      over =
          cancelled shifted_den (difference *ℤ pos s) ((here -ℤ before) *ℤ pos own) q
          (mul_assoc_ℤ difference (pos s) (pos shifted_den) ∙ b ∙ ap (λ (z : ℤ). ((here *ℤ pos shifted_den) -ℤ z) *ℤ pos own) a
          ∙ ap (λ (z : ℤ). z *ℤ pos own) (sym (sub-mul here before (pos shifted_den))) ∙ mul_turn (here -ℤ before) (pos shifted_den) (pos own))
