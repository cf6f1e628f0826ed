-- Products of matrices.
use Rattle.std.proofs.Common.{◌≡◌, ℕ, ◌+◌, ap, add-one}
use Rattle.std.proofs.Math.IntN.{ℤ, ◌+ℤ◌}
use Rattle.affine_form.specs.UniPair.{sum_below}

-- one term more
pub sum_below-more : (n : ℕ) (f : ℕ → ℤ) → sum_below (n + 1) f ≡ sum_below n f +ℤ f n
sum_below-more n f = ap (λ (m : ℕ). sum_below m f) (add-one n)
