use Rattle.std.proofs.Common.{length}
use Rattle.projective_bounds.proofs.families.+first_to.Given as goal

abbrev pub decreases-first_to : goal.decreases-first_to
decreases-first_to l = length l.reads.now
