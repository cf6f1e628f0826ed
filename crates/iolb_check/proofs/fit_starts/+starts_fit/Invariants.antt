use Rattle.std.proofs.Common.{length}
use Rattle.iolb_check.proofs.fit_starts.+starts_fit.Given as goal

abbrev pub decreases-starts_fit : goal.decreases-starts_fit
decreases-starts_fit l = length l.parts.now
