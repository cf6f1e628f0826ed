use Rattle.std.proofs.Common.{◌≡◌, ◌++◌, length}
use Rattle.c_reading.specs.Names.{parameters_among}
use Rattle.c_reading.proofs.among.parameters_among.Given as goal

abbrev pub invariant-loop-name : goal.invariant-loop-name
invariant-loop-name l = l.found.items ++ parameters_among l.names l.kinds ≡ parameters_among l.fn.names l.fn.kinds

abbrev pub decreases-loop-name : goal.decreases-loop-name
decreases-loop-name l = length l.names
