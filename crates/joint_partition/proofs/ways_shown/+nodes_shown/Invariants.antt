use Rattle.std.proofs.Common.{length}
use Rattle.joint_partition.proofs.ways_shown.+nodes_shown.Given as goal

abbrev pub decreases-nodes_shown : goal.decreases-nodes_shown
decreases-nodes_shown l = length l.labels.now
