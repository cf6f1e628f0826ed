-- Products of variables by their exponents.
use Rattle.std.proofs.Common.{◌≡◌, refl, sym, ◌∙◌, ap, ℕ, zero, suc, ◌+◌, ◌<◌, List, [], ◌∷◌, ◌++◌, length, get_or, replicate, arith}
use Rattle.std.specs.Prelude.{slice_set}
use Rattle.std.proofs.Math.IntN.{ℤ, pos, ◌*ℤ◌}
use Rattle.base_laws.proofs.Ring.{mul_assoc_ℤ, one-mul, mul-swap}
use Rattle.iolb_model.specs.Polynomial.{int_power}
use Rattle.poly_tree.specs.Expansion.{powers_from}
use Rattle.projective.specs.Products.{product_of}

-- no powers
pub powers-none : (n v : ℕ) (f : ℕ → ℤ) → powers_from (replicate n 0) v f ≡ pos 1
powers-none zero v f = refl
powers-none (suc n) v f = one-mul (powers_from (replicate n 0) (suc v) f) ∙ powers-none n (suc v) f

-- one power more
pub powers-more : (es : List ℕ) (p v : ℕ) (f : ℕ → ℤ) → p < length es → powers_from (slice_set es p (get_or es p 0 + 1)) v f ≡ f (v + p) *ℤ powers_from es v f
powers-more [] p v f h = absurd (omega arith)
powers-more (e ∷ es) zero v f h =
    ap (λ (n : ℕ). int_power (f v) n *ℤ powers_from es (suc v) f) (next e) ∙ mul_assoc_ℤ (f v) (int_power (f v) e) (powers_from es (suc v) f)
    ∙ ap (λ (n : ℕ). f n *ℤ (int_power (f v) e *ℤ powers_from es (suc v) f)) (here v) where
      next : (n : ℕ) → n + 1 ≡ suc n
      next n = omega arith

      here : (n : ℕ) → n ≡ n + 0
      here n = omega arith
powers-more (e ∷ es) (suc p) v f h =
    ap (λ (z : ℤ). int_power (f v) e *ℤ z) (powers-more es p (suc v) f (omega arith)) ∙ mul-swap (int_power (f v) e) (f (suc v + p)) (powers_from es (suc v) f)
    ∙ ap (λ (n : ℕ). f n *ℤ (int_power (f v) e *ℤ powers_from es (suc v) f)) (moved v p) where
      moved : (m n : ℕ) → suc m + n ≡ m + suc n
      moved m n = omega arith

pub product-push : (vs : List ℕ) (w : ℕ) (f : ℕ → ℤ) → product_of (vs ++ w ∷ []) f ≡ f w *ℤ product_of vs f
product-push [] w f = refl
product-push (v ∷ vs) w f = ap (λ (z : ℤ). f v *ℤ z) (product-push vs w f) ∙ mul-swap (f v) (f w) (product_of vs f)
