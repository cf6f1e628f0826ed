use Rattle.dep_quast.specs.Quasts.{trees_of}
use Rattle.projective_bounds.proofs.Codes.{ColdsTo}
use Rattle.projective_bounds.proofs.terms.cold_terms.Given as goal

abbrev pub invariant-loop-read : goal.invariant-loop-read
invariant-loop-read l = ColdsTo l.program (trees_of l.quasts) l.read l.colds.items
