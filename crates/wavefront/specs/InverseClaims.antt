-- That a matrix turns forms back into a number times a nest's variables, entry by entry.
use Rattle.std.specs.Prelude.{◌≡◌, ℕ, ℤ, List, [], ◌∷◌, ◌++◌, codes}
use Rattle.iolb_model.specs.Form.{AffineForm}
use Rattle.affine_form.specs.Matrix.{IntegerMatrix}
use Rattle.reuse_paths.specs.MatrixRows.{matrix_rows}
use Rattle.claims.specs.Claims.{Claim, counted}
use Rattle.claims.specs.declared.place.Step.{Step}
use Rattle.claims.specs.declared.place.Step.TheVariants.{Key, Index}
use Rattle.execution_laws.specs.Inverse.{product_entry, scaled_entry}
use Rattle.wavefront.specs.Inverse.{coefficients_past}

-- the place of an entry of the product of a term's matrix with forms' coefficients
abbrev pub entry_place : List Step → ℕ → ℕ → List Step
entry_place place row column = place ++ Key (codes "inverse") ∷ Key (codes "matrix") ∷ Index row ∷ Index column ∷ []

-- that this entry is that of the scale times the identity (condition 12)
abbrev pub entry_claim : IntegerMatrix → ℕ → List (List ℤ) → List Step → ℕ → ℕ → List Claim
entry_claim matrix scale coefficients place row column = record {
  condition = 12;
  place = entry_place place row column;
  statement = product_entry (matrix_rows matrix) coefficients row column ≡ scaled_entry scale row column;
} ∷ []

-- that the matrix turns the forms back into the scale times the variables past the parameters, so many of them: entry by
-- entry, row after row
abbrev pub inverse_claims : IntegerMatrix → ℕ → ℕ → ℕ → List AffineForm → List Step → List Claim
inverse_claims matrix scale parameters size forms place =
    counted (λ row. counted (entry_claim matrix scale (coefficients_past parameters forms) place row) 0 size) 0 size
