-- What makes a bound hold for several processors, and that accepted certificates' bounds do.
use Rattle.std.specs.Prelude.{⊤, List}
use Rattle.std.specs.List.{AllByRecursion, AllZip}
use Rattle.iolb_model.specs.Program.{AffineProgram, IsWellFormed}
use Rattle.iolb_model.specs.Bound.{Bound, BoundTerm, cold, count_value, joint, partition, wavefront}
use Rattle.iolb_model.specs.Footprint.{AreApartFootprints, CostTheirValues, Footprint}
use Rattle.iolb_model.specs.Parallel.{HoldsInParallel}
use Rattle.affine_program.specs.Parts.{ProgramParts, meaning}
use Rattle.k_partition.specs.TermRuns.{SharesAmongRuns}
use Rattle.iolb_check.specs.Bounds.{BoundParts, bound_of}
use Rattle.iolb_check.specs.Claims.{claim_of_certificate}
use Rattle.iolb_check.specs.Conditions.{MeetsConditions}
use Rattle.iolb_check.specs.Limits.{CertificateParts}
use Rattle.iolb_check.specs.Sound.{AreCounted, ArePaid, IsSoundBranch}

-- A partition or joint term's cost is shared among runs that compute parts of its points. Nothing is asked of other terms.
abbrev pub IsSplit : AffineProgram → BoundTerm → Footprint → Type 0
IsSplit program (cold count) footprint = ⊤
IsSplit program (wavefront pairs outer) footprint = ⊤
IsSplit program (partition count credits numbers) footprint =
    (points : Footprint) × SharesAmongRuns program (count_value count) (count_value credits) numbers points footprint
IsSplit program (joint count credits numbers) footprint =
    (points : Footprint) × SharesAmongRuns program (count_value count) (count_value credits) numbers points footprint

-- The terms of a branch cost their values in loads of footprints of which no two have a vertex in common, and split.
pub record IsSplitBranch (program : AffineProgram) (terms : List BoundTerm) : Type 0 where
  pub footprints : List Footprint
  pub each : CostTheirValues program terms footprints
  pub apart : AreApartFootprints program footprints
  pub split : AllZip (IsSplit program) terms footprints

-- A bound of such branches holds for several processors.
abbrev pub SplitBranchesHoldInParallel : Type 0
SplitBranchesHoldInParallel = (program : AffineProgram) (bound : Bound) → AllByRecursion (IsSplitBranch program) bound.branches → HoldsInParallel program bound

-- What a check says of a certificate that it accepts, and of the bound that it gives: the certificate meets the conditions, its
-- branches are sound, and its terms cost their values and have the counts of their points.
pub record IsAccepted (program : ProgramParts) (certificate : CertificateParts) (bound : BoundParts) : Type 0 where
  pub meets : MeetsConditions (meaning program) (claim_of_certificate certificate) bound.branches
  pub sound : AllByRecursion (IsSoundBranch program) certificate.branches
  pub paid : AllZip (ArePaid program) certificate.branches bound.branches
  pub counts : AllZip (AreCounted program) certificate.branches bound.branches

-- The branches of such a bound are split, so it holds for several processors.
abbrev pub AcceptedBoundsHoldInParallel : Type 0
AcceptedBoundsHoldInParallel = (program : ProgramParts) (certificate : CertificateParts) (bound : BoundParts) → IsWellFormed (meaning program)
    → IsAccepted program certificate bound → HoldsInParallel (meaning program) (bound_of bound)
