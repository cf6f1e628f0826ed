use Rattle.std.proofs.Common.{length}
use Rattle.walk_systems.proofs.images.+parts_at.Given as goal

abbrev pub decreases-parts_at : goal.decreases-parts_at
decreases-parts_at l = length l.parts.now
