use Rattle.std.specs.Prelude.{length}
use Rattle.cover_lp.proofs.ratio.+are_held.Given as goal

abbrev pub decreases-are_held : goal.decreases-are_held
decreases-are_held l = length l.sets.now
