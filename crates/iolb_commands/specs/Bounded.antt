-- What answers the work of making a certificate.
use Rattle.std.specs.Prelude.{◌≡◌, ◌⊎◌, ◌≤◌, ℕ, List, length}
use Rattle.iolb_model.specs.Headline.{BoundHolds}
use Rattle.iolb_model.specs.Printed.{bound_text}
use Rattle.iolb_model.specs.Program.{AffineProgram}
use Rattle.iolb_model.specs.declared.limits.TheConstants.{CERTIFICATE_BYTES}
use Rattle.dep_quast.specs.Quasts.{trees_of}
use Rattle.projective_bounds.specs.Certified.{HasCoverInReach}
use Rattle.find_terms.specs.Made.{IsMadeFor}
use Rattle.find_terms.specs.Shortened.{AreShortParts}
use Rattle.iolb_cert.specs.CertificateText.{certificate_text}
use Rattle.iolb_cert.specs.OneCertificate.{HasCertificate}
use Rattle.iolb_check.specs.Claims.{CertificateClaim, claim_of_certificate}
use Rattle.iolb_check.specs.Conditions.{MeetsConditions}
use Rattle.iolb_check.specs.declared.bound.Value.{Value}
use Rattle.iolb_check.specs.Limits.{CertificateParts}
use Rattle.iolb_commands.specs.Task.{bound_with}

-- Where no cover is in reach, the text of a certificate has at most 64 MiB, or nothing more of it can be left out: it has one branch at
-- most, and the source trees of reads of written arrays are blank, but for those that this branch names.
abbrev pub IsKeptShort : AffineProgram → CertificateParts → Type 0
IsKeptShort program certificate =
    ¬ HasCoverInReach program → (length (certificate_text certificate) ≤ CERTIFICATE_BYTES) ⊎ AreShortParts program certificate.branches (trees_of certificate.quasts)

-- A certificate is as they are made for a program, and this is its text, byte for byte: compact JSON with a newline at the end. For a
-- projective program with a cover in reach it is the certificate of the cover, whose first branch has the least exponent of all rational
-- covers; for every other one the first branch is the opening one, with a term at least, or no read of the program is plain, and the
-- text is kept short.
abbrev pub IsOfMaker : AffineProgram → CertificateClaim → List ℕ → Type 0
IsOfMaker program certificate text =
    (parts : CertificateParts) × (certificate ≡ claim_of_certificate parts) × (text ≡ certificate_text parts) × IsMadeFor program parts × IsKeptShort program parts

-- A text is that of a certificate that meets the conditions for a program, a note that of its bound, and the bound holds. The
-- certificate is as they are made for the program, and the text the one that it is written as.
pub record IsBounded (program : AffineProgram) (text note : List ℕ) : Type 0 where
  pub certificate : CertificateClaim
  pub written : HasCertificate text certificate
  pub values : List (List Value)
  pub valid : MeetsConditions program certificate values
  pub noted : note ≡ bound_text program.parameters (bound_with program values)
  pub holds : BoundHolds program (bound_with program values)
  pub made : IsOfMaker program certificate text
