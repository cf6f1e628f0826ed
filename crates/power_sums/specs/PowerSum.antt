-- Sums of powers of whole numbers (Faulhaber, Academia Algebrae, 1631).
use Rattle.std.specs.Prelude.{◌≡◌, ◌≢◌, ℕ, zero, suc, ◌+◌, ◌^◌, ◌<◌, ℤ, pos, ◌-ℤ◌, ◌*ℤ◌, ◌≤ℤ◌, List, unsigned_abs}
use Rattle.std.specs.Int.{◌∣◌}
use Rattle.iolb_model.specs.Polynomial.{int_power}
use Rattle.power_sums.specs.Polynomial.{value, coefficient}

-- 1^d + 2^d + .. + n^d
abbrev pub total_of_powers : ℕ → ℕ → ℕ
total_of_powers d zero = 0
total_of_powers d (suc n) = total_of_powers d n + suc n ^ d

-- the polynomial num / den is the sum of the d-th powers, in lowest terms
pub record IsPowerSum (d : ℕ) (num : List ℤ) (den : ℤ) : Type 0 where
  -- it is 0 at 0, and its difference from its shift by one is n^d, at integers of either sign
  pub zero_at_zero : value num (pos 0) ≡ pos 0
  pub difference : (n : ℤ) → value num n -ℤ value num (n -ℤ pos 1) ≡ den *ℤ int_power n d
  -- so its value at n is the sum of i^d for i from 1 to n
  pub total : (n : ℕ) → value num (pos n) ≡ den *ℤ pos (total_of_powers d n)
  -- its degree is d + 1
  pub leading : coefficient num (suc d) ≢ pos 0
  pub past_degree : (e : ℕ) → suc d < e → coefficient num e ≡ pos 0
  -- its numbers are small, and have no common factor
  pub positive : pos 1 ≤ℤ den
  pub small_den : unsigned_abs den < 2 ^ 6
  pub small_num : (e : ℕ) → unsigned_abs (coefficient num e) < 2 ^ 6
  pub lowest : (g : ℕ) → g ∣ unsigned_abs den → ((e : ℕ) → g ∣ unsigned_abs (coefficient num e)) → g ≡ 1
