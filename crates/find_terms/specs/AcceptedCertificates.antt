-- Certificates that are accepted for a program.
use Rattle.std.specs.Prelude.{◌≡◌, ⊤, ℕ, List}
use Rattle.iolb_model.specs.Headline.{BoundHolds}
use Rattle.affine_program.specs.Parts.{ProgramParts, meaning}
use Rattle.claims.specs.Claims.{FirstFails}
use Rattle.claims.specs.declared.refused.FailedCondition.{FailedCondition}
use Rattle.iolb_check.specs.Bounds.{BoundParts, bound_of}
use Rattle.iolb_check.specs.Claims.{claim_of_certificate}
use Rattle.iolb_check.specs.Conditions.{MeetsConditions, conditions}
use Rattle.iolb_check.specs.Limits.{CertificateParts}
use Rattle.iolb_cert.specs.CertificateText.{certificate_text}
use Rattle.iolb_cert.specs.OneCertificate.{HasCertificate}
use Rattle.find_terms.specs.declared.accepted.Accepted.{Accepted}
use Rattle.find_terms.specs.declared.growing.Verdict.{Verdict}
use Rattle.find_terms.specs.declared.growing.Verdict.TheVariants.{Taken, Left}

-- A certificate meets all conditions for a program, and this bound has the values of its terms and holds.
pub record Gives (program : ProgramParts) (certificate : CertificateParts) (bound : BoundParts) : Type 0 where
  pub assumed : bound.assumed ≡ program.assumed
  pub meets : MeetsConditions (meaning program) (claim_of_certificate certificate) bound.branches
  pub holds : BoundHolds (meaning program) (bound_of bound)

-- a condition fails first
abbrev pub IsRefused : ProgramParts → CertificateParts → Type 0
IsRefused program certificate = (failed : FailedCondition) × FirstFails (conditions (meaning program) (claim_of_certificate certificate)) failed

-- a bound that a certificate gives, and the certificate's text, which has the certificate
pub record IsGiven (program : ProgramParts) (certificate : CertificateParts) (bound : BoundParts) (text : List ℕ) : Type 0 where
  pub gives : Gives program certificate bound
  pub text_is : text ≡ certificate_text certificate
  pub written : HasCertificate text (claim_of_certificate certificate)

-- What is made for a program: a certificate that gives the bound, and its text.
abbrev pub IsAccepted : ProgramParts → Accepted → Type 0
IsAccepted program accepted = IsGiven program accepted.certificate accepted.bound accepted.text.items

-- what a certificate that is taken gives
abbrev pub IsTaken : ProgramParts → CertificateParts → Verdict → Type 0
IsTaken program certificate (Taken bound) = Gives program certificate bound
IsTaken program certificate (Left full) = ⊤
