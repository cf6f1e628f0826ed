use Rattle.std.specs.Prelude.{length}
use Rattle.cover_lp.proofs.packings.+rooms_left.Given as goal

abbrev pub decreases-rooms_left : goal.decreases-rooms_left
decreases-rooms_left l = length l.sets.now
