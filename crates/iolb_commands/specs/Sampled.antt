-- What answers a request for so many matrix products.
use Rattle.std.specs.Prelude.{◌≡◌, ◌⊎◌, ℕ, ◌*◌, ◌≤◌, min, ℤ, pos, List, [], ◌∷◌, ◌++◌, codes, decimal, slice_get, Some}
use Rattle.affine_c.specs.Products.{product_program}
use Rattle.find_terms.specs.Made.{IsMadeFor}
use Rattle.iolb_check.specs.Bounds.{HasWideBranch, IsWideBranch, terms_of}
use Rattle.iolb_check.specs.Claims.{claim_of_certificate}
use Rattle.iolb_check.specs.Conditions.{MeetsConditions}
use Rattle.iolb_check.specs.declared.bound.Value.{Value}
use Rattle.iolb_check.specs.Limits.{CertificateParts}
use Rattle.iolb_model.specs.Bound.{bound_value, branch_value}
use Rattle.iolb_model.specs.Headline.{BoundHolds}
use Rattle.projective_bounds.specs.Certified.{IsCertified}
use Rattle.iolb_commands.specs.Bounded.{IsKeptShort}
use Rattle.iolb_commands.specs.Task.{bound_with}

-- the size of the matrices, N, and how many red pebbles there are
abbrev pub sample_sizes : List ℤ
sample_sizes = pos 64 ∷ []

abbrev pub sample_memory : ℕ
sample_memory = 64

-- so many products, and a value
abbrev pub sample_text : ℕ → ℕ → List ℕ
sample_text products value = codes "products " ++ decimal products ++ codes "\nvalue " ++ decimal value ++ codes "\n"

-- This is the value of a branch that isn't wide at the sizes, and 0 of one that is.
abbrev pub IsNarrowValue : List ℤ → ℕ → List Value → ℕ → Type 0
IsNarrowValue sizes s terms value = ((¬ IsWideBranch sizes s terms) × (value ≡ branch_value (terms_of terms) sizes s)) ⊎ (IsWideBranch sizes s terms × (value ≡ 0))

-- This is the greatest value of the branches that aren't wide at the sizes, and 0 where there is none.
pub record IsGreatestNarrow (branches : List (List Value)) (sizes : List ℤ) (s value : ℕ) : Type 0 where
  pub most : (branch : ℕ) (terms : List Value) → slice_get branches branch ≡ Some terms → ¬ IsWideBranch sizes s terms → branch_value (terms_of terms) sizes s ≤ value
  pub reached : (value ≡ 0)
      ⊎ ((branch : ℕ) × (terms : List Value) × (slice_get branches branch ≡ Some terms) × (¬ IsWideBranch sizes s terms) × (branch_value (terms_of terms) sizes s ≡ value))

-- Of one product the certificate is that of a projective program, no branch is wide, and this is the value of its bound.
abbrev pub IsOfOne : ℕ → CertificateParts → List (List Value) → ℕ → Type 0
IsOfOne products certificate values value = products ≡ 1 → IsCertified (product_program products) certificate × (¬ HasWideBranch sample_sizes sample_memory values)
    × (value ≡ bound_value (bound_with (product_program products) values) sample_sizes sample_memory)

-- Of two products or more it is at least a matrix's numbers for each of 16 matrices, or of all that are only read, where these are
-- fewer.
abbrev pub IsOfSeveral : ℕ → ℕ → Type 0
IsOfSeveral products value = 2 ≤ products → 4096 * min (2 * products) 16 ≤ value

-- A certificate meets the conditions for the program of so many products, its bound holds, it is as they are made for the program, its text is kept
-- short, and this text has the greatest value of the branches that aren't wide with 64 red pebbles for matrices of 64 by 64 numbers.
pub record IsSampled (products : ℕ) (text note : List ℕ) : Type 0 where
  pub certificate : CertificateParts
  pub values : List (List Value)
  pub valid : MeetsConditions (product_program products) (claim_of_certificate certificate) values
  pub holds : BoundHolds (product_program products) (bound_with (product_program products) values)
  pub made : IsMadeFor (product_program products) certificate
  pub short : IsKeptShort (product_program products) certificate
  pub value : ℕ
  pub greatest : IsGreatestNarrow values sample_sizes sample_memory value
  pub one : IsOfOne products certificate values value
  pub several : IsOfSeveral products value
  pub says : text ≡ sample_text products value
  pub unnoted : note ≡ []
