use Rattle.std.proofs.Common.{length}
use Rattle.projective.proofs.loops.+all_run.Given as goal

abbrev pub decreases-all_run : goal.decreases-all_run
decreases-all_run l = length l.bounds.now
