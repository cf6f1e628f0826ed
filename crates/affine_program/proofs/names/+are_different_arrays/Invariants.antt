use Rattle.std.proofs.Common.{length}
use Rattle.affine_program.proofs.names.+are_different_arrays.Given as goal

abbrev pub decreases-are_different_arrays : goal.decreases-are_different_arrays
decreases-are_different_arrays l = length l.arrays.now
