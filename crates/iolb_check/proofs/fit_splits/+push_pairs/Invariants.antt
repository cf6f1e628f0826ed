use Rattle.std.proofs.Common.{length}
use Rattle.iolb_check.proofs.fit_splits.+push_pairs.Given as goal

abbrev pub decreases-push_pairs : goal.decreases-push_pairs
decreases-push_pairs l = length l.parts.now
