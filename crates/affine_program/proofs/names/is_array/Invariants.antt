use Rattle.std.proofs.Common.{◌≡◌, drop, map}
use Rattle.affine_program.specs.Parts.{array_of}
use Rattle.affine_program.specs.Printable.{is_array_name}
use Rattle.affine_program.proofs.names.is_array.Given as goal

abbrev pub invariant-loop-other : goal.invariant-loop-other
invariant-loop-other l = is_array_name l.name (map array_of (drop l.other-index l.arrays)) ≡ is_array_name l.name (map array_of l.arrays)
