use Rattle.affine_program.specs.Parts.{meaning}
use Rattle.find_terms.proofs.ReadLaws.{AreOpeningsTo}
use Rattle.find_terms.proofs.openings.opening_terms.Given as goal

abbrev pub invariant-loop-array : goal.invariant-loop-array
invariant-loop-array l = AreOpeningsTo (meaning l.program) l.array l.colds.items
