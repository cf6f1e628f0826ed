use Rattle.std.specs.Prelude.{length}
use Rattle.cover_lp.proofs.weights.+lowered_needs.Given as goal

abbrev pub decreases-lowered_needs : goal.decreases-lowered_needs
decreases-lowered_needs l = length l.needs.now
