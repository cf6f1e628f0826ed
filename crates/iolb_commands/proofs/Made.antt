-- A certificate that was made, and its bound.
use Rattle.std.proofs.Common.{◌≡◌, ◌⊎◌, ◌∙◌, ◌≤◌, ap, subst, ℕ, List, length}
use Rattle.iolb_model.specs.Headline.{BoundHolds}
use Rattle.iolb_model.specs.Printed.{bound_text}
use Rattle.affine_form.specs.System.{AffineSystem}
use Rattle.affine_program.specs.Parts.{ProgramParts, meaning}
use Rattle.iolb_cert.specs.OneCertificate.{HasCertificate}
use Rattle.iolb_check.specs.Bounds.{BoundParts, bound_of}
use Rattle.iolb_check.specs.Claims.{CertificateClaim}
use Rattle.iolb_check.specs.Conditions.{MeetsConditions}
use Rattle.iolb_model.specs.Program.{AffineProgram}
use Rattle.iolb_model.specs.declared.limits.TheConstants.{CERTIFICATE_BYTES}
use Rattle.dep_quast.specs.Quasts.{trees_of}
use Rattle.find_terms.specs.Shortened.{AreShortParts, IsShort}
use Rattle.find_terms.specs.declared.accepted.Accepted.{Accepted}
use Rattle.iolb_cert.specs.CertificateText.{certificate_text}
use Rattle.projective_bounds.specs.Certified.{HasCoverInReach}
use Rattle.iolb_commands.specs.Bounded.{IsBounded, IsKeptShort, IsOfMaker}

-- the text that was made is the certificate's, so it is as short
pub kept_short : (program : AffineProgram) (accepted : Accepted) → accepted.text.items ≡ certificate_text accepted.certificate
    → (¬ HasCoverInReach program → IsShort program CERTIFICATE_BYTES accepted) → IsKeptShort program accepted.certificate
kept_short program accepted is short none =
    subst (λ (text : List ℕ). (length text ≤ CERTIFICATE_BYTES) ⊎ AreShortParts program accepted.certificate.branches (trees_of accepted.certificate.quasts)) is (short none)

pub bounded_so : (program : ProgramParts) (certificate : CertificateClaim) (bound : BoundParts) (text note : List ℕ) → HasCertificate text certificate → bound.assumed ≡ program.assumed
    → MeetsConditions (meaning program) certificate bound.branches → BoundHolds (meaning program) (bound_of bound) → note ≡ bound_text program.params (bound_of bound) → IsOfMaker (meaning program) certificate text → IsBounded (meaning program) text note
bounded_so program certificate bound text note written assumed meets holds noted made = record {
  certificate = certificate;
  written = written;
  values = bound.branches;
  valid = meets;
  noted = noted ∙ ap (λ (a : AffineSystem). bound_text program.params (bound_of (record { assumed = a; branches = bound.branches }))) assumed;
  holds = subst (λ (a : AffineSystem). BoundHolds (meaning program) (bound_of (record { assumed = a; branches = bound.branches }))) assumed holds;
  made = made;
}
