-- Certificates of projective programs are accepted, and other programs have none.
use Rattle.std.proofs.Common.{◌≡◌, subst}
use Rattle.std.specs.Prelude.{Option, Some, None, IfNone, IfSome}
use Rattle.iolb_model.specs.Program.{AffineProgram}
use Rattle.affine_program.specs.Domain.{depth_of}
use Rattle.affine_program.specs.Parts.{ProgramParts, meaning}
use Rattle.cover_lp.specs.Cover.{IsTooFine}
use Rattle.iolb_check.specs.Limits.{CertificateParts}
use Rattle.k_partition.specs.View.{partition_of}
use Rattle.projective.specs.Projective.{projection_sets}
use Rattle.projective_bounds.specs.Certified.{HasCoverInReach, IsCertified, IsOfLeastExponent}
use Rattle.projective_bounds.specs.Laws.{CertifiedAreAccepted}
use Rattle.find_terms.specs.AcceptedCertificates.{IsRefused}
use Rattle.find_terms.specs.Made.{IsMadeFor}
use Rattle.find_terms.specs.Opened.{BeginsWithOpening}
use Rattle.find_terms.specs.declared.accepted.Accepted.{Accepted}
use Rattle.find_terms.proofs.Opened.{refused}

-- the certificate isn't refused
pub certain-accepted : CertifiedAreAccepted → (program : ProgramParts) (certificate : CertificateParts) (found : Option Accepted) → IsCertified (meaning program) certificate → found ≡ None
    → IfNone found (IsRefused program certificate) → ⊥
certain-accepted law program certificate found is none h = let fails : IsRefused program certificate = refused program certificate found none h in law (meaning program) certificate is fails.0 fails.1

-- a program for which the least cover is too fine has no cover in reach
pub none-reached : (program : AffineProgram) → IsTooFine (projection_sets program) (depth_of program 0) → ¬ HasCoverInReach program
none-reached program fine has = fine.none has.q has.weights has.packing has.pair.positive has.pair.few has.pair.light has.pair.is_pair

-- ---- what is made

abbrev pub IsLeast : AffineProgram → Accepted → Type 0
IsLeast program accepted = (is : IsCertified program accepted.certificate) × IsOfLeastExponent program (partition_of is.whole.term)

pub made-certified : (program : AffineProgram) (found : Option Accepted) (accepted : Accepted) → found ≡ Some accepted → IfSome found (IsLeast program)
    → IfSome found (λ (a : Accepted). HasCoverInReach program) → IsMadeFor program accepted.certificate
made-certified program found accepted some certified reached = record {
  projective = λ has. subst (λ (o : Option Accepted). IfSome o (IsLeast program)) some certified;
  others = λ not. absurd (not (subst (λ (o : Option Accepted). IfSome o (λ (a : Accepted). HasCoverInReach program)) some reached));
}

pub made-others : (program : AffineProgram) (found : Option Accepted) (certificate : CertificateParts) → found ≡ None → IfNone found (¬ HasCoverInReach program)
    → BeginsWithOpening program certificate.branches → IsMadeFor program certificate
made-others program found certificate none never opens = record {
  projective = λ has. absurd ((subst (λ (o : Option Accepted). IfNone o (¬ HasCoverInReach program)) none never) has);
  others = λ not. opens;
}
