use Rattle.std.proofs.Common.{length}
use Rattle.projective_bounds.proofs.families.+families.Given as goal

abbrev pub decreases-families : goal.decreases-families
decreases-families l = length l.sets.now
