use Rattle.affine_program.specs.Parts.{meaning}
use Rattle.dep_quast.specs.Views.{read_of}
use Rattle.find_terms.proofs.NameLaws.{AreNamedTo}
use Rattle.find_terms.proofs.named.loops_named.Given as goal

abbrev pub invariant-loop-subscript : goal.invariant-loop-subscript
invariant-loop-subscript l = AreNamedTo (meaning l.program) (read_of l.reader) l.subscript-index l.loops.items
