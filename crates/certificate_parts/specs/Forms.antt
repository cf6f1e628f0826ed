-- The texts of forms: the coefficients, then the constant.
use Rattle.std.specs.Prelude.{ℕ, ℤ, List, [], ◌∷◌, ◌++◌, length, map, ◌≡◌, unsigned_abs, nat_lt, false, Option, None, Some, Ok, IfOk}
use Rattle.std.proofs.lemmas.Bool.{ltb-true}
use Rattle.std.specs.List.{AllByRecursion}
use Rattle.iolb_model.specs.Form.{AffineForm}
use Rattle.iolb_model.specs.declared.limits.TheConstants.{NUMBER_SIZE}
use Rattle.affine_form.specs.Form.{IsSmall, IsSmallForm}
use Rattle.serde_json.specs.Data.{Data}
use Rattle.json_parts.specs.Given.{given_then, given_behind, given_if, given_each}
use Rattle.json_parts.specs.Json.{reads_short_list, each, integer_of, small_integer, reads_integer}
use Rattle.json_parts.specs.Outcome.{Outcome, ◌>>=◌, fault}
use Rattle.json_parts.specs.Shape.{Shape, list_shape}
use Rattle.json_parts.specs.Truths.{never}
use Rattle.json_parts.specs.Written.{list, whole}

-- the form of these numbers
abbrev pub form_of : ℤ → List ℤ → AffineForm
form_of number [] = record { coefficients = []; constant = number }
form_of number (next ∷ numbers) = record { coefficients = number ∷ (form_of next numbers).coefficients; constant = (form_of next numbers).constant }

abbrev pub form_in : List ℤ → Outcome AffineForm
form_in [] = fault 2
form_in (number ∷ numbers) = Ok (form_of number numbers)

-- At most 24 coefficients, and a constant, whole numbers of size below 2^20.
unfoldable pub reads_form : Data → Outcome AffineForm
reads_form d = do
  members ← reads_short_list 25 d
  numbers ← each (reads_integer NUMBER_SIZE) 0 members
  form_in numbers

abbrev pub form_data : AffineForm → Data
form_data form = list (map whole (form.coefficients ++ form.constant ∷ []))

-- ---- what is read is within the limits

pub integer_small : (limit : ℕ) (d : Data) → IfOk (reads_integer limit d) (IsSmall limit)
unfolding reads_integer
integer_small limit d = found (integer_of d) where
  found : (whole : Option ℤ) → IfOk (small_integer limit whole) (IsSmall limit)
  found None = tt
  found (Some z) = given_if (nat_lt (unsigned_abs z) limit) (Ok z) (fault 3) (IsSmall limit) (ltb-true (unsigned_abs z) limit) tt

form_of-small : (limit : ℕ) (number : ℤ) (numbers : List ℤ) → IsSmall limit number → AllByRecursion (IsSmall limit) numbers → IsSmallForm limit (form_of number numbers)
form_of-small limit number [] here rest = (tt, here)
form_of-small limit number (next ∷ numbers) here rest = let more = form_of-small limit next numbers rest.0 rest.1 in ((here, more.0), more.1)

form_in-small : (limit : ℕ) (numbers : List ℤ) → AllByRecursion (IsSmall limit) numbers → IfOk (form_in numbers) (IsSmallForm limit)
form_in-small limit [] all = tt
form_in-small limit (number ∷ numbers) all = form_of-small limit number numbers all.0 all.1

pub form_small : (d : Data) → IfOk (reads_form d) (IsSmallForm NUMBER_SIZE)
unfolding reads_form
form_small d =
    given_behind (reads_short_list 25 d) _ (IsSmallForm NUMBER_SIZE)
    (λ members. given_then (each (reads_integer NUMBER_SIZE) 0 members) form_in (λ (numbers : List ℤ). AllByRecursion (IsSmall NUMBER_SIZE) numbers × (length numbers ≡ length members)) (IsSmallForm NUMBER_SIZE)
    (given_each (reads_integer NUMBER_SIZE) (IsSmall NUMBER_SIZE) (integer_small NUMBER_SIZE) 0 members) (λ numbers all. form_in-small NUMBER_SIZE numbers all.0))

abbrev pub form_shape : Shape AffineForm
form_shape = record { reads = reads_form; data_of = form_data; IsWithin = IsSmallForm NUMBER_SIZE; kept = form_small; is_present = false; present = never }

abbrev pub forms_shape : Shape (List AffineForm)
forms_shape = list_shape form_shape
