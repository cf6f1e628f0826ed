-- Certificates that are made for programs.
use Rattle.iolb_model.specs.Program.{AffineProgram}
use Rattle.k_partition.specs.View.{partition_of}
use Rattle.iolb_check.specs.Limits.{CertificateParts}
use Rattle.projective_bounds.specs.Certified.{HasCoverInReach, IsCertified, IsOfLeastExponent}
use Rattle.find_terms.specs.Opened.{BeginsWithOpening}

-- For a projective program with a cover in reach the certificate is that of the cover, whose term has the least exponent of all
-- rational covers; for every other program its first branch is the opening one, where some read is plain.
pub record IsMadeFor (program : AffineProgram) (certificate : CertificateParts) : Type 0 where
  pub projective : HasCoverInReach program → (is : IsCertified program certificate) × IsOfLeastExponent program (partition_of is.whole.term)
  pub others : ¬ HasCoverInReach program → BeginsWithOpening program certificate.branches
