use Rattle.affine_program.specs.Parts.{meaning}
use Rattle.find_terms.specs.Counted.{AreRanges}
use Rattle.find_terms.proofs.counted.ranges_answered.Given as goal

abbrev pub invariant-loop-k : goal.invariant-loop-k
invariant-loop-k l = AreRanges l.wanted (meaning l.program) l.bounds l.k l.all.items
