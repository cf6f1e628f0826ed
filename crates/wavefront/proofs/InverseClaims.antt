-- The claims about a matrix's entries, and what they say of the matrix.
use Rattle.std.proofs.Common.{◌≡◌, refl, inl, inr, ℕ, List, [], arith}
use Rattle.iolb_model.specs.Form.{AffineForm}
use Rattle.affine_form.specs.Matrix.{IntegerMatrix}
use Rattle.reuse_paths.specs.MatrixRows.{matrix_rows}
use Rattle.claims.specs.declared.place.Step.{Step}
use Rattle.claims.specs.declared.refused.Refused.{Refused}
use Rattle.claims.specs.Claims.{Claim, AllHold, IsRefusal, IsRefusalAt, counted}
use Rattle.claims.proofs.Found.{refused-here}
use Rattle.claims.proofs.Members.{counts-hold, counts-each, counts-refused}
use Rattle.execution_laws.specs.Inverse.{IsFirstDifference, product_entry, scaled_entry}
use Rattle.wavefront.specs.Inverse.{coefficients_past, AreUndone}
use Rattle.wavefront.specs.InverseClaims.{entry_place, entry_claim, inverse_claims}

module _ (matrix : IntegerMatrix) (scale parameters size : ℕ) (forms : List AffineForm) (place : List Step) where
  abbrev entry : ℕ → ℕ → List Claim
  entry row column = entry_claim matrix scale (coefficients_past parameters forms) place row column

  abbrev entries : ℕ → List Claim
  entries row = counted (entry row) 0 size

  -- all entries are those of the scale times the identity
  pub undone-hold : AreUndone matrix scale parameters size forms → AllHold (inverse_claims matrix scale parameters size forms place)
  undone-hold undone = counts-hold entries size (λ row r. counts-hold (entry row) size (λ column c. (undone row column r c, tt)))

  pub hold-undone : AllHold (inverse_claims matrix scale parameters size forms place) → AreUndone matrix scale parameters size forms
  hold-undone h row column r c = (counts-each (entry row) size column c (counts-each entries size row r h)).0

  -- the first that isn't is refused
  pub difference-refused : (row column : ℕ) (r : Refused) → IsFirstDifference scale size (matrix_rows matrix) (coefficients_past parameters forms) row column
      → IsRefusalAt 12 (entry_place place row column) r → IsRefusal (inverse_claims matrix scale parameters size forms place) r
  difference-refused row column r first at =
      counts-refused entries size row r first.row_there
      (λ i less. counts-hold (entry i) size (λ c below. (first.none_before i c (omega (arith, less, first.row_there)) below (inl less), tt)))
      (counts-refused (entry row) size column r first.col_there
      (λ c less. (first.none_before row c first.row_there (omega (arith, less, first.col_there)) (inr (refl, less)), tt))
      (refused-here (record { condition = 12; place = entry_place place row column; statement = product_entry (matrix_rows matrix) (coefficients_past parameters forms) row column ≡ scaled_entry scale row column }) [] r first.differs at))
