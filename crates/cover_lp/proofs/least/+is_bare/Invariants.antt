use Rattle.std.specs.Prelude.{length}
use Rattle.cover_lp.proofs.least.+is_bare.Given as goal

abbrev pub decreases-is_bare : goal.decreases-is_bare
decreases-is_bare l = length l.sets.now
