use Rattle.std.proofs.Common.{length}
use Rattle.int_sets.proofs.short.+rises.Given as goal

abbrev pub decreases-rises : goal.decreases-rises
decreases-rises l = length l.weights.now
