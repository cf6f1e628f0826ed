-- The sums of one power are one polynomial, whose numbers are small.
use Rattle.std.proofs.Common.{◌≡◌, sym, subst, ◌∙◌, ap, ℕ, zero, suc, ◌+◌, ◌*◌, ◌<◌, ◌≤◌, ◌^◌, List, [], ◌∷◌, arith, mul-le-mul, lt_of_le_of_lt, lit<}
use Rattle.std.specs.Prelude.{max, unsigned_abs}
use Rattle.std.proofs.Math.IntN.{ℤ, pos, negsuc, ◌-ℤ◌, ◌*ℤ◌}
use Rattle.std.proofs.lemmas.Int.{ints}
use Rattle.base_laws.proofs.Ring.{mul_comm, mul_turn, sub-mul, zero-mul}
use Rattle.iolb_model.specs.Polynomial.{int_power}
use Rattle.power_sums.specs.Polynomial.{coefficient, value}
use Rattle.power_sums.specs.PowerSum.{IsPowerSum}
use Rattle.poly_tree.specs.Terms.{terms_size, terms_weight}
use Rattle.domain_count.specs.Coefficients.{power_terms}
use Rattle.iolb_model.specs.declared.limits.TheConstants.{MEASURE}
use Rattle.power_sums.specs.declared.row.TheConstants.{ROW_COUNT}

-- ---- one polynomial

-- functions of whole numbers that have the same value at 0 and the same steps
module _ (F G : ℤ → ℤ) (start : F (pos 0) ≡ G (pos 0)) (steps : (x : ℤ) → F x -ℤ F (x -ℤ pos 1) ≡ G x -ℤ G (x -ℤ pos 1)) where
  step-to : (x y : ℤ) → x -ℤ pos 1 ≡ y → F x -ℤ F y ≡ G x -ℤ G y
  step-to x y e = subst (λ (z : ℤ). F x -ℤ F z ≡ G x -ℤ G z) e (steps x)

  upward : (n : ℕ) → F (pos n) ≡ G (pos n)
  upward zero = start
  upward (suc n) = risen (F (pos (suc n))) (F (pos n)) (G (pos (suc n))) (G (pos n)) (step-to (pos (suc n)) (pos n) (omega (arith, ints))) (upward n) where
    risen : (a b c d : ℤ) → a -ℤ b ≡ c -ℤ d → b ≡ d → a ≡ c
    risen a b c d h g = omega (arith, ints)

  fallen : (a b c d : ℤ) → a -ℤ b ≡ c -ℤ d → a ≡ c → b ≡ d
  fallen a b c d h g = omega (arith, ints)

  downward : (n : ℕ) → F (negsuc n) ≡ G (negsuc n)
  downward zero = fallen (F (pos 0)) (F (negsuc 0)) (G (pos 0)) (G (negsuc 0)) (step-to (pos 0) (negsuc 0) (omega (arith, ints))) start
  downward (suc n) =
      fallen (F (negsuc n)) (F (negsuc (suc n))) (G (negsuc n)) (G (negsuc (suc n))) (step-to (negsuc n) (negsuc (suc n)) (omega (arith, ints))) (downward n)

  -- are the same
  same-steps : (x : ℤ) → F x ≡ G x
  same-steps (pos n) = upward n
  same-steps (negsuc n) = downward n

-- two power sums of one power have the same values over their denominators
pub rows-agree : (e : ℕ) (num others : List ℤ) (den other : ℤ) → IsPowerSum e num den → IsPowerSum e others other → (x : ℤ) → value num x *ℤ other ≡ value others x *ℤ den
rows-agree e num others den other h g =
    same-steps (λ x. value num x *ℤ other) (λ x. value others x *ℤ den)
    (ap (λ (z : ℤ). z *ℤ other) h.zero_at_zero ∙ zero-mul other ∙ sym (zero-mul den) ∙ ap (λ (z : ℤ). z *ℤ den) (sym g.zero_at_zero))
    (λ x. sym (sub-mul (value num x) (value num (x -ℤ pos 1)) other) ∙ ap (λ (z : ℤ). z *ℤ other) (h.difference x) ∙ mul_turn den (int_power x e) other
    ∙ ap (λ (z : ℤ). z *ℤ int_power x e) (mul_comm den other) ∙ mul_turn other den (int_power x e) ∙ ap (λ (z : ℤ). z *ℤ den) (sym (g.difference x))
    ∙ sub-mul (value others x) (value others (x -ℤ pos 1)) den)

-- ---- small numbers

-- the weight of a row of so many numbers, each below 2^6
row-weight : (v e count : ℕ) (num : List ℤ) → ((i : ℕ) → unsigned_abs (coefficient num i) < 2 ^ 6) → ((i : ℕ) → count ≤ i → coefficient num i ≡ pos 0)
    → terms_weight (power_terms v e num) ≤ 2 ^ 6 * count
row-weight v e count [] small past = omega arith
row-weight v e zero (c ∷ num) small past =
    let here : unsigned_abs c ≡ 0 = ap unsigned_abs (past 0 (omega arith)) in
    let later : terms_weight (power_terms v (suc e) num) ≤ 2 ^ 6 * 0 = row-weight v (suc e) 0 num (λ i. small (suc i)) (λ i far. past (suc i) (omega arith)) in
    omega (arith, here, later)
row-weight v e (suc count) (c ∷ num) small past =
    let here : unsigned_abs c < 2 ^ 6 = small 0 in
    let later : terms_weight (power_terms v (suc e) num) ≤ 2 ^ 6 * count = row-weight v (suc e) count num (λ i. small (suc i)) (λ i far. past (suc i) (omega (arith, far))) in
    omega (arith, here, later)

-- a row of the table is within the measure of terms
pub row-narrow : (v e : ℕ) (num : List ℤ) (den : ℤ) → IsPowerSum e num den → e < ROW_COUNT → terms_size (power_terms v 0 num) (unsigned_abs den) < MEASURE
row-narrow v e num den h below =
    let weight : terms_weight (power_terms v 0 num) ≤ 2 ^ 6 * (e + 2) = row-weight v 0 (e + 2) num h.small_num (λ i far. h.past_degree i (omega (arith, far))) in
    let size : max 1 (terms_weight (power_terms v 0 num)) ≤ 2 ^ 9 = omega (arith, weight, below) in
    let over : unsigned_abs den ≤ 2 ^ 6 = omega (arith, h.small_den) in
    lt_of_le_of_lt (mul-le-mul size over) (lit< tt)
