use Rattle.std.proofs.Common.{length}
use Rattle.joint_partition.proofs.starts_shown.+starts_shown.Given as goal

abbrev pub decreases-starts_shown : goal.decreases-starts_shown
decreases-starts_shown l = length l.parts.now
