-- Plain trees: those that a maker has to find.
use Rattle.std.specs.Prelude.{◌⊎◌, List, [], ◌∷◌, map}
use Rattle.iolb_model.specs.Program.{AffineProgram}
use Rattle.dep_quast.specs.Context.{ReadOf}
use Rattle.dep_quast.specs.Tree.{SelectionTree}
use Rattle.iolb_model.specs.declared.limits.TheConstants.{TREE_TESTS}
use Rattle.flow_deps.specs.declared.wanted.Wanted.TheVariants.{Short}
use Rattle.flow_deps.specs.Shapes.{Shape}
use Rattle.flow_deps.specs.Shown.{IsShown, IsNotShown}
use Rattle.flow_deps.specs.Candidates.{candidates, candidate_shape}

-- a tree of the first of these shapes that short lists show
abbrev pub IsFirstShown : AffineProgram → ReadOf → List Shape → SelectionTree → Type 0
IsFirstShown program reader [] tree = ⊥
IsFirstShown program reader (shape ∷ shapes) tree =
    IsShown Short program reader [] TREE_TESTS shape tree ⊎ (IsNotShown program reader [] TREE_TESTS shape × IsFirstShown program reader shapes tree)

-- A tree of a read is plain where it has the first of the candidates' shapes that short lists show, and is shown by them.
abbrev pub IsPlain : AffineProgram → ReadOf → SelectionTree → Type 0
IsPlain program reader tree = IsFirstShown program reader (map (candidate_shape program reader) (candidates program reader)) tree
