use Rattle.joint_partition.proofs.JointCounts.{joint-points-are-counted}
use Rattle.joint_partition.proofs.counts.joint_points_are_counted.Goals as goal

pub returns : goal.returns
returns c = joint-points-are-counted c.right_claims_count.ensures
