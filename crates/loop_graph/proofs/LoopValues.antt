-- The values of a loop, one after the other.
use Rattle.std.proofs.Common.{◌≡◌, refl, sym, ap, ◌∙◌, ℕ, zero, suc, [], ◌∷◌, false, length, arith}
use Rattle.std.specs.Prelude.{◌≤ℤ◌, ◌<ℤ◌}
use Rattle.std.proofs.Math.IntN.{ℤ, pos, negsuc, ◌+ℤ◌, ◌-ℤ◌}
use Rattle.std.proofs.lemmas.Int.{ints}
use Rattle.std.specs.Int.Signed.{lt_z, lt_z_no}
use Rattle.std.proofs.lemmas.Float.{T_from_false}
use Rattle.iolb_model.specs.Program.{Direction, upward, downward}
use Rattle.iolb_model.specs.Execution.{natural, rising, falling, range_size, loop_values}

pub not_past : (a b : ℤ) → lt_z b a ≡ false → a ≤ℤ b
not_past a b h = lt_z_no (T_from_false (lt_z b a) h)

natural_step : (z : ℤ) → pos 1 ≤ℤ z → natural z ≡ suc (natural (z -ℤ pos 1))
natural_step (pos zero) h = absurd (omega (arith, ints))
natural_step (pos (suc n)) h = ap suc (by (pos (suc n) -ℤ pos 1) (omega (arith, ints))) where
  by : (y : ℤ) → y ≡ pos n → n ≡ natural y
  by y e = sym (ap natural e)
natural_step (negsuc n) h = absurd (omega (arith, ints))

natural_low : (z : ℤ) → z ≤ℤ pos 0 → natural z ≡ 0
natural_low (pos zero) h = refl
natural_low (pos (suc n)) h = absurd (omega (arith, ints))
natural_low (negsuc n) h = refl

-- a loop that runs upward takes its lower bound first
pub lowest_first : (lower upper : ℤ) → lower ≤ℤ upper → loop_values upward lower upper ≡ lower ∷ loop_values upward (lower +ℤ pos 1) upper
lowest_first lower upper h =
    let left : ((upper -ℤ lower) +ℤ pos 1) -ℤ pos 1 ≡ (upper -ℤ (lower +ℤ pos 1)) +ℤ pos 1 = omega (arith, ints) in
    ap (rising lower) (natural_step ((upper -ℤ lower) +ℤ pos 1) (omega (arith, ints)) ∙ ap (λ z. suc (natural z)) left)

-- and one that runs downward its upper bound
pub highest_first : (lower upper : ℤ) → lower ≤ℤ upper → loop_values downward lower upper ≡ upper ∷ loop_values downward lower (upper -ℤ pos 1)
highest_first lower upper h =
    let left : ((upper -ℤ lower) +ℤ pos 1) -ℤ pos 1 ≡ ((upper -ℤ pos 1) -ℤ lower) +ℤ pos 1 = omega (arith, ints) in
    ap (falling upper) (natural_step ((upper -ℤ lower) +ℤ pos 1) (omega (arith, ints)) ∙ ap (λ z. suc (natural z)) left)

-- a loop whose upper bound is below its lower bound takes none
pub no_values : (direction : Direction) (lower upper : ℤ) → upper <ℤ lower → loop_values direction lower upper ≡ []
no_values upward lower upper h = ap (rising lower) (natural_low ((upper -ℤ lower) +ℤ pos 1) (omega (arith, ints)))
no_values downward lower upper h = ap (falling upper) (natural_low ((upper -ℤ lower) +ℤ pos 1) (omega (arith, ints)))

rising_long : (first : ℤ) (count : ℕ) → length (rising first count) ≡ count
rising_long first zero = refl
rising_long first (suc count) = ap suc (rising_long (first +ℤ pos 1) count)

falling_long : (first : ℤ) (count : ℕ) → length (falling first count) ≡ count
falling_long first zero = refl
falling_long first (suc count) = ap suc (falling_long (first -ℤ pos 1) count)

-- how many values a loop takes
pub values_count : (direction : Direction) (lower upper : ℤ) → length (loop_values direction lower upper) ≡ range_size lower upper
values_count upward lower upper = rising_long lower (range_size lower upper)
values_count downward lower upper = falling_long upper (range_size lower upper)
