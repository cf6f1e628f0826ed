use Rattle.affine_program.specs.Parts.{meaning}
use Rattle.find_terms.specs.Found.{HasNoEarlier}
use Rattle.find_terms.proofs.openings.first_of.Given as goal

abbrev pub invariant-loop-statement : goal.invariant-loop-statement
invariant-loop-statement l = HasNoEarlier (meaning l.program) l.array (record { statement = l.statement; read = 0 })
