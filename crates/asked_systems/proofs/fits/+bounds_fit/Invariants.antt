use Rattle.std.proofs.Common.{length}
use Rattle.asked_systems.proofs.fits.+bounds_fit.Given as goal

abbrev pub decreases-bounds_fit : goal.decreases-bounds_fit
decreases-bounds_fit l = length l.bounds.now
