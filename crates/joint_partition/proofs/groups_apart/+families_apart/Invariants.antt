use Rattle.std.proofs.Common.{length}
use Rattle.joint_partition.proofs.groups_apart.+families_apart.Given as goal

abbrev pub decreases-families_apart : goal.decreases-families_apart
decreases-families_apart l = length l.families.now
