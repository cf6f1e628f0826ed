use Rattle.std.specs.Prelude.{length}
use Rattle.cover_lp.proofs.ratio.+total_of.Given as goal

abbrev pub decreases-total_of : goal.decreases-total_of
decreases-total_of l = length l.numbers.now
