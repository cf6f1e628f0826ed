-- Source trees of all reads of a program, of which each stands.
use Rattle.std.specs.Prelude.{◌≡◌, ◌≤◌, ℕ, suc, ⊤, List, [], ◌∷◌, length}
use Rattle.iolb_model.specs.Program.{AffineProgram, statement_at}
use Rattle.dep_quast.specs.Context.{ReadOf}
use Rattle.dep_quast.specs.Tree.{SelectionTree, leaf_count}
use Rattle.dep_quast.specs.Trees.{read_of}
use Rattle.flow_deps.specs.Shown.{Stands}
use Rattle.iolb_model.specs.declared.limits.TheConstants.{TREE_TESTS, TREE_LEAVES}

-- A source tree of a read stands: it fits the program, each of its claims holds, and it is within the limits of certificates.
pub record IsStanding (program : AffineProgram) (reader : ReadOf) (tree : SelectionTree) : Type 0 where
  pub stands : Stands program reader [] TREE_TESTS tree
  pub few : leaf_count tree ≤ TREE_LEAVES

-- so do those of the reads of a statement, from a read on
abbrev pub AreStanding : AffineProgram → ℕ → ℕ → List SelectionTree → Type 0
AreStanding program statement read [] = ⊤
AreStanding program statement read (tree ∷ trees) = IsStanding program (read_of statement read) tree × AreStanding program statement (suc read) trees

-- a standing tree of each read of a statement
pub record IsStandingRow (program : AffineProgram) (statement : ℕ) (row : List SelectionTree) : Type 0 where
  pub many : length row ≡ length (statement_at program statement).reads
  pub each : AreStanding program statement 0 row

-- rows of the statements from one on
abbrev pub AreStandingRows : AffineProgram → ℕ → List (List SelectionTree) → Type 0
AreStandingRows program statement [] = ⊤
AreStandingRows program statement (row ∷ rows) = IsStandingRow program statement row × AreStandingRows program (suc statement) rows

-- a standing tree of each read of a program
pub record AllStand (program : AffineProgram) (trees : List (List SelectionTree)) : Type 0 where
  pub many : length trees ≡ length program.statements
  pub rows : AreStandingRows program 0 trees
