use Rattle.std.proofs.Common.{map, drop}
use Rattle.std.specs.Prelude.{◌↔◌}
use Rattle.affine_program.specs.Parts.{meaning}
use Rattle.dep_quast.specs.Tree.{SelectionTree}
use Rattle.dep_quast.specs.Views.{read_of}
use Rattle.flow_deps.specs.Candidates.{candidate_shape}
use Rattle.flow_deps.specs.Plain.{IsFirstShown}
use Rattle.flow_deps.proofs.plain_trees.first_planted.Given as goal

abbrev pub invariant-loop-candidate : goal.invariant-loop-candidate
invariant-loop-candidate l = (tree : SelectionTree)
    → IsFirstShown (meaning l.program) (read_of l.reader) (drop l.candidate-index (map (candidate_shape (meaning l.program) (read_of l.reader)) l.all)) tree
    ↔ IsFirstShown (meaning l.program) (read_of l.reader) (map (candidate_shape (meaning l.program) (read_of l.reader)) l.all) tree
