use Rattle.std.proofs.Common.{length}
use Rattle.joint_partition.proofs.families_shown.+families_from.Given as goal

abbrev pub decreases-families_from : goal.decreases-families_from
decreases-families_from l = length l.families.now
