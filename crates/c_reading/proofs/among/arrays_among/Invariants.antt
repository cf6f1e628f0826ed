use Rattle.std.proofs.Common.{◌≡◌, ◌++◌, length}
use Rattle.c_reading.specs.Names.{arrays_among}
use Rattle.c_reading.proofs.among.arrays_among.Given as goal

abbrev pub invariant-loop-name : goal.invariant-loop-name
invariant-loop-name l = l.found.items ++ arrays_among l.names l.kinds ≡ arrays_among l.fn.names l.fn.kinds

abbrev pub decreases-loop-name : goal.decreases-loop-name
decreases-loop-name l = length l.names
