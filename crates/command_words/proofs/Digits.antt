-- Numbers by their digits, capped.
use Rattle.std.proofs.Common.{◌≡◌, ◌∙◌, ap, inl, inr, ◌⊎◌, ℕ, zero, suc, ◌+◌, ◌-◌, ◌*◌, ◌≤◌, min, List, [], ◌∷◌, arith}
use Rattle.command_words.specs.Numbers.{with_digits}

-- more digits make no number less
pub no-less : (n : ℕ) (bytes : List ℕ) → n ≤ with_digits n bytes
no-less n [] = omega arith
no-less n (b ∷ bytes) = omega (arith, no-less (n * 10 + (b - 48)) bytes)

either : (a b : ℕ) → (a ≤ b) ⊎ (b ≤ a)
either zero b = inl (omega arith)
either (suc a) zero = inr (omega arith)
either (suc a) (suc b) = up (either a b) where
  up : ((a ≤ b) ⊎ (b ≤ a)) → (suc a ≤ suc b) ⊎ (suc b ≤ suc a)
  up (inl h) = inl (omega (arith, h))
  up (inr h) = inr (omega (arith, h))

-- a number may be capped before its other digits come
pub capped : (limit n : ℕ) (bytes : List ℕ) → min (with_digits (min n limit) bytes) limit ≡ min (with_digits n bytes) limit
capped limit n bytes = by (either n limit) where
  low : (n ≤ limit) → min n limit ≡ n
  low h = omega (arith, h)

  high : (limit ≤ n) → min n limit ≡ limit
  high h = omega (arith, h)

  both : (a b : ℕ) → limit ≤ a → limit ≤ b → min a limit ≡ min b limit
  both a b h k = omega (arith, h, k)

  by : ((n ≤ limit) ⊎ (limit ≤ n)) → min (with_digits (min n limit) bytes) limit ≡ min (with_digits n bytes) limit
  by (inl h) = ap (λ (k : ℕ). min (with_digits k bytes) limit) (low h)
  by (inr h) = ap (λ (k : ℕ). min (with_digits k bytes) limit) (high h) ∙ both (with_digits limit bytes) (with_digits n bytes) (no-less limit bytes) (omega (arith, h, no-less n bytes))
