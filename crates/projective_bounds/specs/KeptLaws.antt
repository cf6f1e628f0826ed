-- Source trees of projective programs keep the loops that stand in references.
use Rattle.std.specs.Prelude.{List}
use Rattle.iolb_model.specs.Program.{AffineProgram}
use Rattle.dep_quast.specs.Tree.{SelectionTree}
use Rattle.projective.specs.Projective.{IsProjective}
use Rattle.projective.specs.SourceTrees.{AreSourceTrees}
use Rattle.projective_bounds.specs.Trees.{HaveKeepingTrees}

-- Each leaf of such a tree is an input, or, where the array is written, a source that has the reader's values in these loops.
abbrev pub SourceTreesKeepLoops : Type 0
SourceTreesKeepLoops = (program : AffineProgram) (trees : List (List SelectionTree)) → IsProjective program → AreSourceTrees program trees → HaveKeepingTrees program trees
