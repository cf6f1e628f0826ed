-- The source trees of projective programs, without their multipliers: a read of the array that is written has as source the
-- last write of the same cell, one turn before of the innermost loop that is in a later turn, among those that don't stand in
-- the reference.
use Rattle.std.specs.Prelude.{◌≡◌, ℕ, zero, suc, ◌≤◌, ⊤, ◌==◌, if◌then◌else◌, List, [], ◌∷◌, length}
use Rattle.iolb_model.specs.Program.{AffineProgram, statement_at, read_at}
use Rattle.affine_program.specs.Domain.{depth_of}
use Rattle.dep_quast.specs.Context.{ReadOf}
use Rattle.dep_quast.specs.Tree.{SelectionTree, leaf_count}
use Rattle.flow_deps.specs.Shapes.{Shape, no_write, last_write, split, shape_of}
use Rattle.flow_deps.specs.Shown.{Stands}
use Rattle.projective.specs.Turns.{is_kept, later_turn, turn_before}
use Rattle.iolb_model.specs.declared.limits.TheConstants.{TREE_TESTS, TREE_LEAVES}

-- The shape of the tree for the first so many loops: for each that doesn't stand in the reference, the innermost first, a
-- test whether it is in a later turn, over the write one turn before; and where none is, no write is earlier.
abbrev pub turns_shape : AffineProgram → ℕ → Shape
turns_shape program zero = no_write
turns_shape program (suc loop) =
    if is_kept program loop then turns_shape program loop
    else split (later_turn program loop) (last_write 0 loop (turn_before program loop)) (turns_shape program loop)

-- the shape of the source tree of a read
abbrev pub source_shape : AffineProgram → ℕ → Shape
source_shape program read =
    if (read_at program 0 read).array == (statement_at program 0).writes.array then turns_shape program (depth_of program 0) else no_write

-- a read of the statement
abbrev pub read_number : ℕ → ReadOf
read_number read = record { statement = 0; read = read }

-- A source tree of a read: it has the shape, it fits the program and each of its claims holds, and it is within the limits of
-- certificates.
pub record IsSourceTree (program : AffineProgram) (read : ℕ) (tree : SelectionTree) : Type 0 where
  pub shape : shape_of tree ≡ source_shape program read
  pub stands : Stands program (read_number read) [] TREE_TESTS tree
  pub few : leaf_count tree ≤ TREE_LEAVES

-- source trees of the reads from one on
abbrev pub AreFromRead : AffineProgram → ℕ → List SelectionTree → Type 0
AreFromRead program read [] = ⊤
AreFromRead program read (tree ∷ trees) = IsSourceTree program read tree × AreFromRead program (suc read) trees

-- The source trees of a projective program: one row, since it has one statement, with a tree for each read.
pub record AreSourceTrees (program : AffineProgram) (rows : List (List SelectionTree)) : Type 0 where
  pub row : List SelectionTree
  pub one : rows ≡ row ∷ []
  pub many : length row ≡ length (statement_at program 0).reads
  pub each : AreFromRead program 0 row
