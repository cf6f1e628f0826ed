use Rattle.std.proofs.Common.{length}
use Rattle.joint_partition.proofs.distinct_shown.+later_shown.Given as goal

abbrev pub decreases-later_shown : goal.decreases-later_shown
decreases-later_shown l = length l.others.now
