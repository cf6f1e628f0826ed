use Rattle.std.proofs.Common.{drop, map}
use Rattle.std.specs.Prelude.{◌↔◌}
use Rattle.std.specs.List.{AllByRecursion}
use Rattle.affine_program.specs.Parts.{array_of}
use Rattle.affine_program.specs.Printable.{IsArrayName}
use Rattle.affine_program.proofs.names.are_arrays_named.Given as goal

abbrev pub invariant-loop-array : goal.invariant-loop-array
invariant-loop-array l = AllByRecursion (IsArrayName l.names) (map array_of (drop l.array-index l.arrays)) ↔ AllByRecursion (IsArrayName l.names) (map array_of l.arrays)
