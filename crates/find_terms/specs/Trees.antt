-- Source trees of all reads of a program.
use Rattle.std.specs.Prelude.{◌≡◌, ◌==◌, ◌&&◌, ◌||◌, not, ℕ, suc, ⊤, Bool, true, false, List, [], ◌∷◌, length}
use Rattle.std.specs.List.{list_any}
use Rattle.iolb_model.specs.Program.{AffineProgram, Statement, statement_at}
use Rattle.dep_quast.specs.Context.{ReadOf, reference_of}
use Rattle.dep_quast.specs.Tree.{SelectionTree, leaf, blank}
use Rattle.flow_deps.specs.Plain.{IsPlain}
use Rattle.flow_deps.specs.Standing.{IsStanding}
use Rattle.dep_quast.specs.Trees.{read_of}
use Rattle.iolb_check.specs.declared.term.Term.{Term}
use Rattle.iolb_check.specs.declared.term.Term.TheVariants as terms
use Rattle.find_terms.specs.declared.trees.Scope.{Scope}
use Rattle.find_terms.specs.declared.trees.Scope.TheVariants.{All, Few}

-- whether a term is a cold term of a read
abbrev pub is_of_read : ReadOf → Term → Bool
is_of_read reader (terms.Cold cold) = cold.statement == reader.statement && cold.read == reader.read
is_of_read reader (terms.Partition partition) = false
is_of_read reader (terms.Wavefront front) = false
is_of_read reader (terms.Joint joint) = false

-- whether a read has the tree that is found, whatever its array is
abbrev pub is_named : Scope → ReadOf → Bool
is_named All reader = true
is_named (Few terms) reader = list_any (is_of_read reader) terms.now

-- whether a statement writes an array
abbrev pub is_written : AffineProgram → ℕ → Bool
is_written program array = list_any (λ (statement : Statement). statement.writes.array == array) program.statements

-- whether the tree of a read is looked for: it is named, or no statement writes its array
abbrev pub is_sought : AffineProgram → Scope → ReadOf → Bool
is_sought program All reader = true
is_sought program (Few terms) reader = list_any (is_of_read reader) terms.now || not (is_written program (reference_of program reader).array)

-- A source tree of a read stands; it is plain where the read is named and has a plain tree, and blank where none is looked for.
pub record IsSourceTree (program : AffineProgram) (scope : Scope) (reader : ReadOf) (tree : SelectionTree) : Type 0 where
  pub standing : IsStanding program reader tree
  pub plain : is_named scope reader ≡ true → (other : SelectionTree) → IsPlain program reader other → IsPlain program reader tree
  pub unsought : is_sought program scope reader ≡ false → tree ≡ leaf blank

-- source trees of the reads of a statement, from a read on
abbrev pub RowStands : AffineProgram → Scope → ℕ → ℕ → List SelectionTree → Type 0
RowStands program scope statement read [] = ⊤
RowStands program scope statement read (tree ∷ trees) =
    IsSourceTree program scope (read_of statement read) tree × RowStands program scope statement (suc read) trees

-- a source tree of each read of a statement
pub record HasRow (program : AffineProgram) (scope : Scope) (statement : ℕ) (row : List SelectionTree) : Type 0 where
  pub many : length row ≡ length (statement_at program statement).reads
  pub stand : RowStands program scope statement 0 row

-- rows of the statements from one on
abbrev pub RowsStand : AffineProgram → Scope → ℕ → List (List SelectionTree) → Type 0
RowsStand program scope statement [] = ⊤
RowsStand program scope statement (row ∷ rows) = HasRow program scope statement row × RowsStand program scope (suc statement) rows

-- a source tree of each read of a program
pub record HasTrees (program : AffineProgram) (scope : Scope) (trees : List (List SelectionTree)) : Type 0 where
  pub many : length trees ≡ length program.statements
  pub stand : RowsStand program scope 0 trees
