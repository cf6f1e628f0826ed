use Rattle.std.proofs.Common.{length}
use Rattle.projective_bounds.proofs.whole.+total.Given as goal

abbrev pub decreases-total : goal.decreases-total
decreases-total l = length l.weights.now
