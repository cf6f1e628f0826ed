-- Source trees along which walks keep the values of the loops that stand in a reference.
use Rattle.std.specs.Prelude.{◌≡◌, ℕ, zero, suc, ◌<◌, ◌≤◌, ⊤, true, Bool, ◌==◌, List, [], length, slice_index_or, pos, Some}
use Rattle.std.specs.List.{AllByRecursion}
use Rattle.iolb_model.specs.Program.{AffineProgram, read_at, statement_at}
use Rattle.projective.specs.Turns.{width}
use Rattle.affine_form.specs.Form.{variables}
use Rattle.affine_program.specs.Domain.{depth_of}
use Rattle.dep_quast.specs.Tree.{SelectionTree, leaf, test, leaf_count, source, input, empty, blank}
use Rattle.dep_quast.specs.Quasts.{tree_at}
use Rattle.projective.specs.Projective.{coordinates}
use Rattle.projective_bounds.specs.Families.{loop_form}
use Rattle.iolb_model.specs.declared.limits.TheConstants.{TREE_LEAVES, TREE_TESTS}

-- Each leaf of a tree is an input, or, where the array is written, a source in the program's one statement which has the
-- reader's values in these loops. Tests are nested so many deep at most.
abbrev pub KeepsLoops : AffineProgram → Bool → List ℕ → ℕ → SelectionTree → Type 0
KeepsLoops program written loops nested (leaf (source claim)) = (written ≡ true) × (claim.statement ≡ 0) × (length claim.point ≡ depth_of program 0)
    × AllByRecursion (λ form. variables form ≡ width program) claim.point
    × AllByRecursion (λ loop. slice_index_or claim.point loop (record { coefficients = []; constant = pos 0 }) ≡ loop_form program loop) loops
KeepsLoops program written loops nested (leaf (input shown)) = ⊤
KeepsLoops program written loops nested (leaf (empty shown)) = ⊥
KeepsLoops program written loops nested (leaf blank) = ⊥
KeepsLoops program written loops zero (test form above below) = ⊥
KeepsLoops program written loops (suc nested) (test form above below) = KeepsLoops program written loops nested above × KeepsLoops program written loops nested below

-- the tree of a read, of at most 64 leaves and 16 nested tests
pub record HasKeepingTree (program : AffineProgram) (trees : List (List SelectionTree)) (read : ℕ) : Type 0 where
  pub tree : SelectionTree
  pub there : tree_at trees 0 read ≡ Some tree
  pub few : leaf_count tree ≤ TREE_LEAVES
  pub keeps : KeepsLoops program ((statement_at program 0).writes.array == (read_at program 0 read).array)
      (coordinates (length program.parameters) (depth_of program 0) (Some (read_at program 0 read))) TREE_TESTS tree

-- all reads have such trees
abbrev pub HaveKeepingTrees : AffineProgram → List (List SelectionTree) → Type 0
HaveKeepingTrees program trees = (read : ℕ) → read < length (statement_at program 0).reads → HasKeepingTree program trees read
