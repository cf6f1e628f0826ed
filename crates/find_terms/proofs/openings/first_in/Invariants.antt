use Rattle.affine_program.specs.Parts.{meaning}
use Rattle.find_terms.specs.Found.{HasNoEarlier}
use Rattle.find_terms.proofs.openings.first_in.Given as goal

abbrev pub invariant-loop-read : goal.invariant-loop-read
invariant-loop-read l = HasNoEarlier (meaning l.program) l.array (record { statement = l.statement; read = l.read })
