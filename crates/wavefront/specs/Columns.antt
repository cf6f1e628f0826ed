-- The coefficients that forms have at one place.
use Rattle.std.specs.Prelude.{◌≡◌, ℕ, ◌+◌, ◌<◌, ℤ, pos, List, map, slice_index_or}
use Rattle.iolb_model.specs.Form.{AffineForm, dot}
use Rattle.execution_laws.specs.Inverse.{scaled_entry}

-- the coefficient of each form at this place, 0 past a form's variables
abbrev pub coefficients_at : ℕ → List AffineForm → List ℤ
coefficients_at place forms = map (λ (form : AffineForm). slice_index_or form.coefficients place (pos 0)) forms

-- below this column the row times the forms' coefficients is the row of a number times the identity
abbrev pub AgreesBelow : ℕ → List ℤ → List AffineForm → ℕ → ℕ → ℕ → Type 0
AgreesBelow scale row forms parameters number bound =
    (col : ℕ) → col < bound → dot row (coefficients_at (parameters + col) forms) ≡ scaled_entry scale number col
