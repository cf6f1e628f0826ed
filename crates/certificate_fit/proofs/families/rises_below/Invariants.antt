use Rattle.std.proofs.Common.{drop}
use Rattle.std.specs.Prelude.{◌↔◌}
use Rattle.certificate_fit.specs.FamilyFit.{RisesBelow}
use Rattle.certificate_fit.proofs.families.rises_below.Given as goal

abbrev pub invariant-loop-member : goal.invariant-loop-member
invariant-loop-member l = RisesBelow l.depth l.least (drop l.member-index l.set) ↔ RisesBelow l.depth 0 l.set
