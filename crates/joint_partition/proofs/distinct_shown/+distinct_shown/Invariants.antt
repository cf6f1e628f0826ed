use Rattle.std.proofs.Common.{length}
use Rattle.joint_partition.proofs.distinct_shown.+distinct_shown.Given as goal

abbrev pub decreases-distinct_shown : goal.decreases-distinct_shown
decreases-distinct_shown l = length l.parts.now
