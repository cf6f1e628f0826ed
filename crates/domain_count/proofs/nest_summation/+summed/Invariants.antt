use Rattle.std.proofs.Common.{length}
use Rattle.domain_count.proofs.nest_summation.+summed.Given as goal

abbrev pub decreases-summed : goal.decreases-summed
decreases-summed l = length l.bounds.now
