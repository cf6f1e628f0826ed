-- The greatest number whose scaled power stays within a limit is one.
use Rattle.std.proofs.Common.{◌≡◌, refl, subst, inl, inr, ℕ, zero, suc, ◌*◌, ◌^◌, ◌<◌, ◌≤◌, Bool, true, false, if◌then◌else◌, arith}
use Rattle.std.specs.Prelude.{◌⊎◌, nat_lt}
use Rattle.std.proofs.lemmas.Bool.{ltb-true, ltb-false}
use Rattle.iolb_model.specs.Bound.{greatest_up_to}
use Rattle.uniform_cover.specs.Greatest.{IsGreatest}
use Rattle.uniform_cover.proofs.Powers.{self-le-pow_scaled}

module _ (q den top : ℕ) where
  -- the greatest of the numbers up to n that are within, and at least 1
  record IsGreatestTo (n u : ℕ) : Type 0 where
    at_least_one : 1 ≤ u
    within : 1 < u → u ^ q * den ≤ top
    greatest : (v : ℕ) → v ≤ n → v ^ q * den ≤ top → v ≤ u

  one-more : (n g : ℕ) (past : Bool) → nat_lt top (suc n ^ q * den) ≡ past → IsGreatestTo n g → IsGreatestTo (suc n) (if past then g else suc n)
  one-more n g true e h = record { at_least_one = h.at_least_one; within = h.within; greatest = λ v le fits. h.greatest v (below v le fits) fits } where
    over : top < suc n ^ q * den
    over = ltb-true top (suc n ^ q * den) e

    other : (v : ℕ) → v ^ q * den ≤ top → v ≡ suc n → ⊥
    other v fits same = let beside : suc n ^ q * den ≤ top = subst (λ (m : ℕ). m ^ q * den ≤ top) same fits in absurd (omega (arith, over, beside))

    below : (v : ℕ) → v ≤ suc n → v ^ q * den ≤ top → v ≤ n
    below v le fits = by (cases v n le) where
      cases : (m k : ℕ) → m ≤ suc k → (m ≤ k) ⊎ (m ≡ suc k)
      cases m k le = grind arith

      by : (v ≤ n) ⊎ (v ≡ suc n) → v ≤ n
      by (inl less) = less
      by (inr same) = absurd (other v fits same)
  one-more n g false e h = record { at_least_one = omega arith; within = λ _. ltb-false top (suc n ^ q * den) e; greatest = λ v le fits. le }

  greatest-to : (n : ℕ) → IsGreatestTo n (greatest_up_to q den top n)
  greatest-to zero = record { at_least_one = omega arith; within = λ h. absurd (omega (arith, h)); greatest = λ v le fits. omega (arith, le) }
  greatest-to (suc n) = one-more n (greatest_up_to q den top n) (nat_lt top (suc n ^ q * den)) refl (greatest-to n)

  -- so it is the greatest of all
  pub greatest-is : 1 ≤ q → 1 ≤ den → IsGreatest q den top (greatest_up_to q den top top)
  greatest-is some positive = record { at_least_one = h.at_least_one; within = h.within; greatest = λ v fits. h.greatest v (small v fits) fits } where
    h : IsGreatestTo top (greatest_up_to q den top top)
    h = greatest-to top

    small : (v : ℕ) → v ^ q * den ≤ top → v ≤ top
    small zero fits = omega arith
    small (suc v) fits = omega (arith, fits, self-le-pow_scaled (suc v) q den (omega arith) some positive)

  -- and two that are so are one
  pub greatest-one : (u w : ℕ) → IsGreatest q den top u → IsGreatest q den top w → u ≡ w
  greatest-one u w h g = same u w (least u w h g) (least w u g h) where
    least : (x y : ℕ) → IsGreatest q den top x → IsGreatest q den top y → x ≤ y
    least x y h g = by (cases x h.at_least_one) where
      cases : (m : ℕ) → 1 ≤ m → (m ≡ 1) ⊎ (1 < m)
      cases m some = grind arith

      by : (x ≡ 1) ⊎ (1 < x) → x ≤ y
      by (inl one) = omega (arith, one, g.at_least_one)
      by (inr more) = g.greatest x (h.within more)

    same : (x y : ℕ) → x ≤ y → y ≤ x → x ≡ y
    same x y le ge = omega (arith, le, ge)
