use Rattle.std.specs.Prelude.{length}
use Rattle.flow_deps.proofs.points.+are_zero.Given as goal

abbrev pub decreases-are_zero : goal.decreases-are_zero
decreases-are_zero l = length l.numbers.now
