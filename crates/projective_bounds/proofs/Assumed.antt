-- Assumptions which say that a parameter is at least 1.
use Rattle.std.proofs.Common.{◌≡◌, refl, ap, inl, inr, ℕ, ◌<◌, List, [], ◌∷◌, get_or, arith}
use Rattle.std.specs.Prelude.{◌≤ℤ◌, unsigned_abs}
use Rattle.std.specs.List.{AllByRecursion}
use Rattle.std.proofs.Math.IntN.{ℤ, pos, negsuc, ◌+ℤ◌}
use Rattle.std.proofs.lemmas.Int.{ints}
use Rattle.iolb_model.specs.Form.{AffineForm, dot, form_value}
use Rattle.affine_form.specs.Form.{IsSmallForm}
use Rattle.affine_form.specs.Rows.{variable}
use Rattle.affine_form.proofs.Meaning.{form_value-variable}
use Rattle.projective.specs.Projective.{Assumes, HoldsOfOne}
use Rattle.projective.proofs.NestRows.{at}
use Rattle.projective.proofs.Picked.{IsPicked, picked-none}
use Rattle.iolb_model.specs.declared.limits.TheConstants.{MULTIPLIER_SIZE, NUMBER_SIZE}

below-zero : (z : ℤ) → z ≤ℤ negsuc 0 → (m : ℕ) × (z ≡ negsuc m)
below-zero (pos n) h = absurd (omega (arith, ints))
below-zero (negsuc m) h = (m, refl)

-- some row is worth the parameter less 1, less a number that multipliers can add
pub record HasRow (rows : List AffineForm) (parameter : ℕ) : Type 0 where
  pub rest : ℕ
  pub small : rest < MULTIPLIER_SIZE
  pub picked : IsPicked rows ((λ point. at parameter point +ℤ negsuc rest) ∷ [])

pub assumed-row : (params parameter : ℕ) (rows : List AffineForm) → parameter < params → AllByRecursion (IsSmallForm NUMBER_SIZE) rows → HoldsOfOne (Assumes params parameter) rows → HasRow rows parameter
assumed-row params parameter [] there small h = absurd h
assumed-row params parameter (row ∷ rows) there small (inl h) =
    let number = below-zero row.constant h.1 in
    record {
      rest = number.0;
      small = omega (arith, small.0.1, ap (λ (z : ℤ). unsigned_abs z) number.1);
      picked = inl (worth number.0 number.1, picked-none rows);
    } where
      worth : (m : ℕ) → row.constant ≡ negsuc m → (point : List ℤ) → form_value row point ≡ at parameter point +ℤ negsuc m
      worth m e point =
          total (dot row.coefficients point) (dot (variable params parameter).coefficients point) (get_or point parameter (pos 0)) row.constant (negsuc m)
          (ap (λ (cs : List ℤ). dot cs point) h.0) (form_value-variable params parameter point there) e where
            total : (a b x c m : ℤ) → a ≡ b → b +ℤ pos 0 ≡ x → c ≡ m → a +ℤ c ≡ x +ℤ m
            total a b x c m p q r = omega (arith, ints)
assumed-row params parameter (row ∷ rows) there small (inr h) =
    let later = assumed-row params parameter rows there small.1 h in record { rest = later.rest; small = later.small; picked = inr later.picked }
