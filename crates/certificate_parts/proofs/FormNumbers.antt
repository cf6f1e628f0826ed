-- Forms by their numbers.
use Rattle.std.proofs.Common.{◌≡◌, List, [], ◌∷◌, ◌++◌, Ok, refl, ap, arith}
use Rattle.std.specs.Prelude.{ℤ}
use Rattle.std.specs.List.{AllByRecursion}
use Rattle.iolb_model.specs.Form.{AffineForm}
use Rattle.affine_form.specs.Form.{IsSmall}
use Rattle.certificate_parts.specs.Forms.{form_of, form_in}
use Rattle.iolb_model.specs.declared.limits.TheConstants.{NUMBER_SIZE, COEFFICIENT_SIZE}

form_of-last : (first : ℤ) (numbers : List ℤ) (constant : ℤ) → form_of first (numbers ++ constant ∷ []) ≡ record { coefficients = first ∷ numbers; constant = constant }
form_of-last first [] constant = refl
form_of-last first (next ∷ numbers) constant =
    ap (λ (form : AffineForm). record { coefficients = first ∷ form.coefficients; constant = form.constant }) (form_of-last next numbers constant)

-- the last number is the constant
pub form_in-last : (coefficients : List ℤ) (constant : ℤ) → form_in (coefficients ++ constant ∷ []) ≡ Ok (record { coefficients = coefficients; constant = constant })
form_in-last [] constant = refl
form_in-last (first ∷ coefficients) constant = ap Ok (form_of-last first coefficients constant)

-- what holds of all numbers
pub all_last : (P : ℤ → Type 0) (xs : List ℤ) (x : ℤ) → AllByRecursion P (xs ++ x ∷ []) → AllByRecursion P xs × P x
all_last P [] x all = (tt, all.0)
all_last P (y ∷ xs) x all = ((all.0, (all_last P xs x all.1).0), (all_last P xs x all.1).1)

-- small numbers are numbers that a form may have
pub small_more : (xs : List ℤ) → AllByRecursion (IsSmall NUMBER_SIZE) xs → AllByRecursion (IsSmall COEFFICIENT_SIZE) xs
small_more [] all = tt
small_more (x ∷ xs) all = (omega (arith, all.0), small_more xs all.1)
