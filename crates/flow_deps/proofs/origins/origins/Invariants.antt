use Rattle.std.specs.List.{AllByRecursion}
use Rattle.affine_program.specs.Parts.{meaning}
use Rattle.dep_quast.specs.Views.{read_of}
use Rattle.flow_deps.specs.Origins.{OriginFits}
use Rattle.flow_deps.proofs.origins.origins.Given as goal

abbrev pub invariant-loop-i : goal.invariant-loop-i
invariant-loop-i l = AllByRecursion (OriginFits (meaning l.program) (read_of l.reader)) l.all.items
