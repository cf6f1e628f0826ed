use Rattle.std.specs.Prelude.{length}
use Rattle.cover_lp.proofs.ratio.+weight_at.Given as goal

abbrev pub decreases-weight_at : goal.decreases-weight_at
decreases-weight_at l = length l.sets.now
