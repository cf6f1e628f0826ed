-- That different points of a nest have different values of forms, by a scaled inverse.
use Rattle.std.specs.Prelude.{ℕ, ℤ, List, map, drop}
use Rattle.iolb_model.specs.Form.{AffineForm}
use Rattle.affine_form.specs.Matrix.{IntegerMatrix}
use Rattle.reuse_paths.specs.MatrixRows.{matrix_rows}
use Rattle.execution_laws.specs.Inverse.{IsScaledInverse}

-- the coefficients of forms past so many
abbrev pub coefficients_past : ℕ → List AffineForm → List (List ℤ)
coefficients_past parameters forms = map (λ (form : AffineForm). drop parameters form.coefficients) forms

-- a matrix turns forms back into the scale times the variables past the parameters, so many of them (condition 12)
abbrev pub AreUndone : IntegerMatrix → ℕ → ℕ → ℕ → List AffineForm → Type 0
AreUndone matrix scale parameters size forms = IsScaledInverse scale size (matrix_rows matrix) (coefficients_past parameters forms)
