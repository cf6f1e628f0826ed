use Rattle.std.proofs.Common.{length}
use Rattle.joint_partition.proofs.pieces.+append_families.Given as goal

abbrev pub decreases-append_families : goal.decreases-append_families
decreases-append_families l = length l.families.now
