-- Numbers below one, and one more.
use Rattle.std.proofs.Common.{ℕ, ◌+◌, arith, subst, ◌<◌, sym, inl, inr}
use Rattle.std.proofs.Math.Nat.{eq-or-lt_of_le}

-- what holds of all numbers below one, and of it, holds of all below the next
pub one-more : (P : ℕ → Type 0) (n : ℕ) → ((k : ℕ) → k < n → P k) → P n → (k : ℕ) → k < n + 1 → P k
one-more P n before here k below = elim (eq-or-lt_of_le {n = k} {m = n} (omega (arith, below))) [
  | inl e ↦ subst P (sym e) here
  | inr less ↦ before k less
]
