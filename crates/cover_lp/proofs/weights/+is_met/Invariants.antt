use Rattle.std.specs.Prelude.{length}
use Rattle.cover_lp.proofs.weights.+is_met.Given as goal

abbrev pub decreases-is_met : goal.decreases-is_met
decreases-is_met l = length l.needs.now
