-- What certificates that are made for matrix products are worth.
use Rattle.std.specs.Prelude.{◌≡◌, ℕ, ◌*◌, ◌≤◌, min, pos, List, [], ◌∷◌, Some, slice_get}
use Rattle.affine_c.specs.Products.{product_program}
use Rattle.find_terms.specs.Made.{IsMadeFor}
use Rattle.iolb_check.specs.Bounds.{HasWideBranch, IsWideBranch, terms_of}
use Rattle.iolb_check.specs.Claims.{claim_of_certificate}
use Rattle.iolb_check.specs.Conditions.{MeetsConditions}
use Rattle.iolb_check.specs.declared.bound.Value.{Value}
use Rattle.iolb_check.specs.Limits.{CertificateParts}
use Rattle.iolb_model.specs.Bound.{branch_value}
use Rattle.projective_bounds.specs.Certified.{IsCertified}

-- The first branch of a certificate that is made for two products or more isn't wide at matrices of 64 by 64 numbers, with 64 red
-- pebbles, and is worth a matrix's numbers for each of 16 matrices, or of all that are only read, where these are fewer.
abbrev pub ProductsHaveOpenings : Type 0
ProductsHaveOpenings = (products : ℕ) (certificate : CertificateParts) (values : List (List Value)) → 2 ≤ products → IsMadeFor (product_program products) certificate
    → MeetsConditions (product_program products) (claim_of_certificate certificate) values
    → (terms : List Value) × (slice_get values 0 ≡ Some terms) × (¬ IsWideBranch (pos 64 ∷ []) 64 terms)
    × (4096 * min (2 * products) 16 ≤ branch_value (terms_of terms) (pos 64 ∷ []) 64)

-- A certificate that is made for one product is that of a projective program, and no branch is wide there.
abbrev pub OneProductIsCertified : Type 0
OneProductIsCertified = (certificate : CertificateParts) (values : List (List Value)) → IsMadeFor (product_program 1) certificate
    → MeetsConditions (product_program 1) (claim_of_certificate certificate) values
    → IsCertified (product_program 1) certificate × (¬ HasWideBranch (pos 64 ∷ []) 64 values)
