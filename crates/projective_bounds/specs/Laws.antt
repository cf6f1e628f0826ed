-- What follows of the certificates of projective programs.
use Rattle.std.specs.Prelude.{ℕ, List}
use Rattle.iolb_model.specs.Program.{AffineProgram}
use Rattle.claims.specs.Claims.{FirstFails}
use Rattle.claims.specs.declared.refused.FailedCondition.{FailedCondition}
use Rattle.k_partition.specs.View.{partition_of}
use Rattle.iolb_check.specs.Claims.{claim_of_certificate}
use Rattle.iolb_check.specs.Conditions.{conditions}
use Rattle.iolb_check.specs.Limits.{CertificateParts}
use Rattle.projective_bounds.specs.Certified.{HasCoverInReach, IsCertified, IsCoverInReach, IsOfLeastExponent}

-- the term of the first branch has the least exponent
abbrev pub CertifiedHaveLeastExponents : Type 0
CertifiedHaveLeastExponents = (program : AffineProgram) (certificate : CertificateParts) (is : IsCertified program certificate)
    → IsOfLeastExponent program (partition_of is.whole.term)

-- where a cover is in reach, a least one is
abbrev pub CoversInReachHaveLeast : Type 0
CoversInReachHaveLeast = (program : AffineProgram) → HasCoverInReach program → (q : ℕ) × (weights : List ℕ) × (packing : List ℕ) × IsCoverInReach program q weights packing

-- and no condition fails
abbrev pub CertifiedAreAccepted : Type 0
CertifiedAreAccepted = (program : AffineProgram) (certificate : CertificateParts) → IsCertified program certificate
    → (failed : FailedCondition) → ¬ FirstFails (conditions program (claim_of_certificate certificate)) failed
