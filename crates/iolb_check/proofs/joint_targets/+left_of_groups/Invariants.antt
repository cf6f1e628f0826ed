use Rattle.std.proofs.Common.{length}
use Rattle.iolb_check.proofs.joint_targets.+left_of_groups.Given as goal

abbrev pub decreases-left_of_groups : goal.decreases-left_of_groups
decreases-left_of_groups l = length l.families.now
