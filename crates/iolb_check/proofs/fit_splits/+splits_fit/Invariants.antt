use Rattle.std.proofs.Common.{length}
use Rattle.iolb_check.proofs.fit_splits.+splits_fit.Given as goal

abbrev pub decreases-splits_fit : goal.decreases-splits_fit
decreases-splits_fit l = length l.pairs.now
