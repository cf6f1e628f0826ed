-- The answers of a check are exact: what a certificate claims either meets the conditions, with one list of values, or fails
-- one condition first, at one place.
use Rattle.std.specs.Prelude.{◌≡◌, List}
use Rattle.iolb_model.specs.Program.{AffineProgram}
use Rattle.claims.specs.Claims.{AllHold, FirstFails}
use Rattle.claims.specs.declared.refused.FailedCondition.{FailedCondition}
use Rattle.iolb_check.specs.Claims.{CertificateClaim}
use Rattle.iolb_check.specs.declared.bound.Value.{Value}
use Rattle.iolb_check.specs.Conditions.{conditions, MeetsConditions}

-- Where all conditions hold, the certificate isn't refused.
abbrev pub ValidCertificatesStand : Type 0
ValidCertificatesStand = (program : AffineProgram) (certificate : CertificateClaim) (failed : FailedCondition) → AllHold (conditions program certificate)
    → FirstFails (conditions program certificate) failed → ⊥

-- Its terms have values then, whatever the program.
abbrev pub ValidCertificatesHaveValues : Type 0
ValidCertificatesHaveValues = (program : AffineProgram) (certificate : CertificateClaim) → AllHold (conditions program certificate)
    → (values : List (List Value)) × MeetsConditions program certificate values

-- It meets the conditions with one list of values.
abbrev pub ValidCertificatesGiveOne : Type 0
ValidCertificatesGiveOne = (program : AffineProgram) (certificate : CertificateClaim) (one two : List (List Value))
    → MeetsConditions program certificate one → MeetsConditions program certificate two → one ≡ two

-- What doesn't is refused by one condition at one place.
abbrev pub RefusalsAreOne : Type 0
RefusalsAreOne = (program : AffineProgram) (certificate : CertificateClaim) (one two : FailedCondition)
    → FirstFails (conditions program certificate) one → FirstFails (conditions program certificate) two → one ≡ two
