use Rattle.std.proofs.Common.{take}
use Rattle.std.specs.List.{AllByRecursion}
use Rattle.affine_program.specs.Limits.{IsSmallReference}
use Rattle.affine_program.proofs.limits.are_small_references.Given as goal

abbrev pub invariant-loop-reference : goal.invariant-loop-reference
invariant-loop-reference l = AllByRecursion IsSmallReference (take l.reference-index l.references)
