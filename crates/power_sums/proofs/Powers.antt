-- Powers of whole numbers.
use Rattle.std.specs.Prelude.{◌≡◌, ℕ, ℤ, pos, ◌*◌, ◌^◌, ◌*ℤ◌}
use Rattle.std.proofs.Common.{arith, ap, sym, ◌∙◌, zero, suc}
use Rattle.std.proofs.Math.Nat.{pow-suc, pow-zero}
use Rattle.iolb_model.specs.Polynomial.{int_power}

-- powers of naturals are those of ℕ
pub power_pos : (n d : ℕ) → int_power (pos n) d ≡ pos (n ^ d)
power_pos n zero = ap pos (sym (pow-zero n))
power_pos n (suc d) = ap (λ z. pos n *ℤ z) (power_pos n d) ∙ ap pos (turned n d)
  where
    turned : (n d : ℕ) → n * n ^ d ≡ n ^ suc d
    turned n d = rw (pow-suc n d) (omega arith)
