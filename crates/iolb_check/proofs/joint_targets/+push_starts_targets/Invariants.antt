use Rattle.std.proofs.Common.{length}
use Rattle.iolb_check.proofs.joint_targets.+push_starts_targets.Given as goal

abbrev pub decreases-push_starts_targets : goal.decreases-push_starts_targets
decreases-push_starts_targets l = length l.parts.now
