use Rattle.std.proofs.Common.{length}
use Rattle.joint_partition.proofs.groups_apart.+others_shown.Given as goal

abbrev pub decreases-others_shown : goal.decreases-others_shown
decreases-others_shown l = length l.others.now
