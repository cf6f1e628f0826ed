use Rattle.std.proofs.Common.{length}
use Rattle.joint_partition.proofs.ways_shown.+ways_shown.Given as goal

abbrev pub decreases-ways_shown : goal.decreases-ways_shown
decreases-ways_shown l = length l.ways.now
