-- The conditions of stores beside a program and a certificate, in the order in which they are tested.
use Rattle.std.specs.Prelude.{ℕ, List, [], ◌∷◌, ◌++◌, codes}
use Rattle.std.specs.List.{AllZip}
use Rattle.claims.specs.Claims.{AllHold, Claim, numbered}
use Rattle.claims.specs.Shown.{pointless_claims}
use Rattle.claims.specs.declared.place.Step.TheVariants.{Key}
use Rattle.domain_count.specs.Count.{IsCount}
use Rattle.iolb_check.specs.Claims.{CertificateClaim}
use Rattle.iolb_model.specs.Program.{AffineProgram}
use Rattle.last_writers.specs.OutputClaims.{output_claims}
use Rattle.poly_tree.specs.Poly.{Quotient}
use Rattle.store_bound.specs.StoresFit.{apart_systems, output_place, stores_fit}
use Rattle.store_terms.specs.Claims.{OutputClaim, StoresClaim}

-- what an output in the list claims (conditions 8, 9, 10, 12 and 24, and 2)
abbrev pub output_claims_at : AffineProgram → ℕ → OutputClaim → List Claim
output_claims_at program index output = output_claims program (output_place index) output

-- that nothing is counted twice (conditions 2 and 23)
abbrev pub apart_claims : AffineProgram → CertificateClaim → StoresClaim → List Claim
apart_claims program certificate stores = pointless_claims 23 (Key (codes "apart") ∷ []) 0 (apart_systems program certificate stores) stores.apart

-- All conditions: that the stores fit the program and the certificate (1), what each output claims, and that nothing is counted
-- twice.
abbrev pub stores_conditions : AffineProgram → CertificateClaim → StoresClaim → List Claim
stores_conditions program certificate stores =
    stores_fit program certificate stores ++ numbered (output_claims_at program) 0 stores.outputs ++ apart_claims program certificate stores

-- these are the counts of outputs, one of each
abbrev pub AreCountsOf : AffineProgram → List OutputClaim → List Quotient → Type 0
AreCountsOf program outputs counts = AllZip (λ (output : OutputClaim) count. IsCount program output.nest output.count count) outputs counts

-- Stores meet all conditions, and these are the counts of their outputs.
pub record MeetStores (program : AffineProgram) (certificate : CertificateClaim) (stores : StoresClaim) (counts : List Quotient) : Type 0 where
  pub accepted : AllHold (stores_conditions program certificate stores)
  pub counted : AreCountsOf program stores.outputs counts
