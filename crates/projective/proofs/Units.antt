-- The coefficients of a variable: 1 at its place, and 0 elsewhere.
use Rattle.std.proofs.Common.{◌≡◌, ◌≢◌, refl, ℕ, ap, zero, suc, ◌<◌, replicate, get_or, arith}
use Rattle.std.specs.Prelude.{slice_set}
use Rattle.std.proofs.Math.IntN.{ℤ, pos}
use Rattle.affine_form.proofs.Combination.{coefficient_of-constant}

-- 1 where two places are one, and 0 elsewhere
unfoldable pub unit : ℕ → ℕ → ℤ
unit zero zero = pos 1
unit zero (suc k) = pos 0
unit (suc p) zero = pos 0
unit (suc p) (suc k) = unit p k

pub unit-at : (n p k : ℕ) → p < n → get_or (slice_set (replicate n (pos 0)) p (pos 1)) k (pos 0) ≡ unit p k
unfolding unit
unit-at zero p k h = absurd (omega arith)
unit-at (suc n) zero zero h = refl
unit-at (suc n) zero (suc k) h = coefficient_of-constant k n
unit-at (suc n) (suc p) zero h = refl
unit-at (suc n) (suc p) (suc k) h = unit-at n p k (omega arith)

pub unit-same : (p : ℕ) → unit p p ≡ pos 1
unfolding unit
unit-same zero = refl
unit-same (suc p) = unit-same p

pub unit-other : (p k : ℕ) → p ≢ k → unit p k ≡ pos 0
unfolding unit
unit-other zero zero h = absurd (h refl)
unit-other zero (suc k) h = refl
unit-other (suc p) zero h = refl
unit-other (suc p) (suc k) h = unit-other p k (λ e. h (ap suc e))
