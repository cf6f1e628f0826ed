use Rattle.std.specs.Prelude.{length}
use Rattle.flow_deps.proofs.points.+is_unit.Given as goal

abbrev pub decreases-is_unit : goal.decreases-is_unit
decreases-is_unit l = length l.numbers.now
