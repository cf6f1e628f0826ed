use Rattle.std.proofs.Common.{length}
use Rattle.projective_bounds.proofs.nest.+nest_below.Given as goal

abbrev pub decreases-nest_below : goal.decreases-nest_below
decreases-nest_below l = length l.parameters.now
