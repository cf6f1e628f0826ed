-- The values of a loop.
use Rattle.std.proofs.Common.{◌≡◌, refl, inl, inr, ℕ, zero, suc, ◌∷◌, arith}
use Rattle.std.specs.Prelude.{◌<ℤ◌}
use Rattle.std.proofs.Math.IntN.{ℤ, pos, negsuc, ◌+ℤ◌, ◌-ℤ◌}
use Rattle.std.proofs.lemmas.Int.{ints}
use lib.Signed.{◌≤ℤ◌}
use Rattle.iolb_model.specs.Program.{Direction, upward, downward}
use Rattle.iolb_model.specs.Order.{GoesBefore}
use Rattle.iolb_model.specs.Execution.{natural, rising, falling, range_size, range, loop_values}
use Rattle.execution_laws.proofs.Members.{Member}
use Rattle.execution_laws.proofs.Ordered.{IsOrdered, All-from}

rising-from : (first : ℤ) (count : ℕ) (v : ℤ) → Member v (rising first count) → first ≤ℤ v
rising-from first zero v m = absurd m
rising-from first (suc count) v (inl e) = omega (arith, ints)
rising-from first (suc count) v (inr m) = omega (arith, ints, rising-from (first +ℤ pos 1) count v m)

rising-below : (first : ℤ) (count : ℕ) (v : ℤ) → Member v (rising first count) → v <ℤ (first +ℤ pos count)
rising-below first zero v m = absurd m
rising-below first (suc count) v (inl e) = omega (arith, ints)
rising-below first (suc count) v (inr m) = omega (arith, ints, rising-below (first +ℤ pos 1) count v m)

rising-has : (first : ℤ) (count : ℕ) (v : ℤ) → first ≤ℤ v → v <ℤ (first +ℤ pos count) → Member v (rising first count)
rising-has first zero v p q = absurd (omega (arith, ints))
rising-has first (suc count) v p q = by (v -ℤ first) refl (λ more less. rising-has (first +ℤ pos 1) count v more less) where
  by : (z : ℤ) → z ≡ v -ℤ first → ((first +ℤ pos 1) ≤ℤ v → v <ℤ ((first +ℤ pos 1) +ℤ pos count) → Member v (rising (first +ℤ pos 1) count))
      → Member v (first ∷ rising (first +ℤ pos 1) count)
  by (pos zero) e later = inl (omega (arith, ints))
  by (pos (suc k)) e later = inr (later (omega (arith, ints)) (omega (arith, ints)))
  by (negsuc k) e later = absurd (omega (arith, ints))

range-lower : (lower upper v : ℤ) → Member v (range lower upper) → lower ≤ℤ v
range-lower lower upper v m = rising-from lower (natural ((upper -ℤ lower) +ℤ pos 1)) v m

range-upper : (lower upper v : ℤ) → Member v (range lower upper) → v ≤ℤ upper
range-upper lower upper v m = by ((upper -ℤ lower) +ℤ pos 1) refl m where
  by : (z : ℤ) → z ≡ (upper -ℤ lower) +ℤ pos 1 → Member v (rising lower (natural z)) → v ≤ℤ upper
  by (pos n) e m = omega (arith, ints, rising-below lower n v m)
  by (negsuc n) e m = absurd m

range-has : (lower upper v : ℤ) → lower ≤ℤ v → v ≤ℤ upper → Member v (range lower upper)
range-has lower upper v p q = by ((upper -ℤ lower) +ℤ pos 1) refl where
  by : (z : ℤ) → z ≡ (upper -ℤ lower) +ℤ pos 1 → Member v (rising lower (natural z))
  by (pos n) e = rising-has lower n v p (omega (arith, ints))
  by (negsuc n) e = absurd (omega (arith, ints))

range-within : (lower upper v : ℤ) → Member v (range lower upper) → (lower ≤ℤ v) × (v ≤ℤ upper)
range-within lower upper v m = (range-lower lower upper v m, range-upper lower upper v m)

rising-ordered : (first : ℤ) (count : ℕ) → IsOrdered (GoesBefore upward) (rising first count)
rising-ordered first zero = tt
rising-ordered first (suc count) = (
  All-from (GoesBefore upward first) (rising (first +ℤ pos 1) count) (λ v m. omega (arith, ints, rising-from (first +ℤ pos 1) count v m)),
  rising-ordered (first +ℤ pos 1) count,
)

range-ordered : (lower upper : ℤ) → IsOrdered (GoesBefore upward) (range lower upper)
range-ordered lower upper = rising-ordered lower (natural ((upper -ℤ lower) +ℤ pos 1))

falling-from : (first : ℤ) (count : ℕ) (v : ℤ) → Member v (falling first count) → v ≤ℤ first
falling-from first zero v m = absurd m
falling-from first (suc count) v (inl e) = omega (arith, ints)
falling-from first (suc count) v (inr m) = omega (arith, ints, falling-from (first -ℤ pos 1) count v m)

falling-above : (first : ℤ) (count : ℕ) (v : ℤ) → Member v (falling first count) → (first -ℤ pos count) <ℤ v
falling-above first zero v m = absurd m
falling-above first (suc count) v (inl e) = omega (arith, ints)
falling-above first (suc count) v (inr m) = omega (arith, ints, falling-above (first -ℤ pos 1) count v m)

falling-has : (first : ℤ) (count : ℕ) (v : ℤ) → v ≤ℤ first → (first -ℤ pos count) <ℤ v → Member v (falling first count)
falling-has first zero v p q = absurd (omega (arith, ints))
falling-has first (suc count) v p q = by (first -ℤ v) refl (λ less more. falling-has (first -ℤ pos 1) count v less more) where
  by : (z : ℤ) → z ≡ first -ℤ v → (v ≤ℤ (first -ℤ pos 1) → ((first -ℤ pos 1) -ℤ pos count) <ℤ v → Member v (falling (first -ℤ pos 1) count))
      → Member v (first ∷ falling (first -ℤ pos 1) count)
  by (pos zero) e later = inl (omega (arith, ints))
  by (pos (suc k)) e later = inr (later (omega (arith, ints)) (omega (arith, ints)))
  by (negsuc k) e later = absurd (omega (arith, ints))

falling-lower : (lower upper v : ℤ) → Member v (falling upper (range_size lower upper)) → lower ≤ℤ v
falling-lower lower upper v m = by ((upper -ℤ lower) +ℤ pos 1) refl m where
  by : (z : ℤ) → z ≡ (upper -ℤ lower) +ℤ pos 1 → Member v (falling upper (natural z)) → lower ≤ℤ v
  by (pos n) e m = omega (arith, ints, falling-above upper n v m)
  by (negsuc n) e m = absurd m

falling-all : (lower upper v : ℤ) → lower ≤ℤ v → v ≤ℤ upper → Member v (falling upper (range_size lower upper))
falling-all lower upper v p q = by ((upper -ℤ lower) +ℤ pos 1) refl where
  by : (z : ℤ) → z ≡ (upper -ℤ lower) +ℤ pos 1 → Member v (falling upper (natural z))
  by (pos n) e = falling-has upper n v q (omega (arith, ints))
  by (negsuc n) e = absurd (omega (arith, ints))

falling-ordered : (first : ℤ) (count : ℕ) → IsOrdered (GoesBefore downward) (falling first count)
falling-ordered first zero = tt
falling-ordered first (suc count) = (
  All-from (GoesBefore downward first) (falling (first -ℤ pos 1) count) (λ v m. omega (arith, ints, falling-from (first -ℤ pos 1) count v m)),
  falling-ordered (first -ℤ pos 1) count,
)

-- a value of a loop is within its bounds
pub values-within : (direction : Direction) (lower upper v : ℤ) → Member v (loop_values direction lower upper) → (lower ≤ℤ v) × (v ≤ℤ upper)
values-within upward lower upper v m = range-within lower upper v m
values-within downward lower upper v m = (falling-lower lower upper v m, falling-from upper (range_size lower upper) v m)

-- and what is within its bounds is a value
pub values-has : (direction : Direction) (lower upper v : ℤ) → lower ≤ℤ v → v ≤ℤ upper → Member v (loop_values direction lower upper)
values-has upward lower upper v p q = range-has lower upper v p q
values-has downward lower upper v p q = falling-all lower upper v p q

-- the values go as its direction says
pub values-ordered : (direction : Direction) (lower upper : ℤ) → IsOrdered (GoesBefore direction) (loop_values direction lower upper)
values-ordered upward lower upper = range-ordered lower upper
values-ordered downward lower upper = falling-ordered upper (range_size lower upper)
