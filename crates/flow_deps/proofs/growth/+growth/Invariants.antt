use Rattle.std.proofs.Common.{◌+◌, ◌*◌}
use Rattle.flow_deps.proofs.growth.+growth.Given as goal

abbrev pub decreases-split : goal.decreases-split
decreases-split l = 2 * l.nested

abbrev pub decreases-grown : goal.decreases-grown
decreases-grown l = 2 * l.nested + 1

abbrev pub invariant-grown-loop-origin : goal.invariant-grown-loop-origin
invariant-grown-loop-origin l = Unit {0}
