use Rattle.std.specs.Prelude.{length}
use Rattle.cover_lp.proofs.ratio.+packed_from.Given as goal

abbrev pub decreases-packed_from : goal.decreases-packed_from
decreases-packed_from l = length l.amounts.now
