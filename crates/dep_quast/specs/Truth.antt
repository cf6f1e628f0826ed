-- What makes a source tree true.
use Rattle.std.specs.Prelude.{◌≡◌, ◌⊎◌, ℕ, ◌*◌, ◌<◌, ℤ, ⊤, List, [], ◌∷◌, ◌++◌, length}
use Rattle.std.specs.List.{AllByRecursion}
use Rattle.iolb_model.specs.Form.{AffineForm}
use Rattle.iolb_model.specs.Program.{AffineProgram, IsWellFormed, statement_at}
use Rattle.iolb_model.specs.Bound.{IsAdmitted}
use Rattle.iolb_model.specs.Execution.{execution}
use Rattle.iolb_model.specs.Source.{Source, written_at, input, source_of, read_cell}
use Rattle.iolb_model.specs.Domain.{IsAt}
use Rattle.iolb_model.specs.Order.{common_loops}
use Rattle.claims.specs.declared.place.Step.{Step}
use Rattle.affine_form.specs.Substitution.{values_at}
use Rattle.affine_form.specs.Rows.{IsSmallOver}
use Rattle.affine_program.specs.Domain.{depth_of, domain_size}
use Rattle.dep_quast.specs.Tree.{SourceClaim, Leaf, source, input as input_leaf, empty, blank, SelectionTree, leaf, test, leaf_at}
use Rattle.dep_quast.specs.Context.{ReadOf, reference_of, variables_at, no_row, context, earlier_writes, writes_between}
use Rattle.dep_quast.specs.Claims.{before_goals, IsValid}

-- the source of the read at a place of the execution
abbrev pub source_at : AffineProgram → List ℤ → ReadOf → ℕ → List ℤ → Source
source_at program parameters reader place values =
    source_of program parameters (execution program parameters) place (read_cell program parameters reader.statement reader.read values)

-- A leaf is true of the reader at this place with these loop values: a source is the instance that last wrote the cell
-- before, an input says that none did, an empty leaf never comes, and a blank one says nothing.
abbrev pub IsTrueLeaf : AffineProgram → List ℤ → ReadOf → ℕ → List ℤ → Leaf → Type 0
IsTrueLeaf program parameters reader place values (source claim) = (at : ℕ)
    × (IsAt program parameters at (record { statement = claim.statement; values = values_at claim.point (parameters ++ values) })
    × (source_at program parameters reader place values ≡ written_at at))
IsTrueLeaf program parameters reader place values (input_leaf shown) =
    source_at program parameters reader place values ≡ input (read_cell program parameters reader.statement reader.read values)
IsTrueLeaf program parameters reader place values (empty shown) = ⊥
IsTrueLeaf program parameters reader place values blank = ⊤

-- A tree is true: at all admitted parameter values, of any size, and at every instance of the reading statement in the
-- execution, the leaf that the tests choose is true.
abbrev pub IsTrueTree : AffineProgram → ReadOf → SelectionTree → Type 0
IsTrueTree program reader tree = (parameters : List ℤ) (place : ℕ) (values : List ℤ) → IsAdmitted program parameters
    → IsAt program parameters place (record { statement = reader.statement; values = values })
    → IsTrueLeaf program parameters reader place values (leaf_at tree (parameters ++ values))

-- the level of a source is one of those at which its statement may come before the reader
abbrev pub IsLevel : AffineProgram → ℕ → ℕ → ℕ → Type 0
IsLevel program t s level = (level < length (common_loops program t s)) ⊎ ((level ≡ length (common_loops program t s)) × (t < s))

-- What a source's claim names is there: its statement, its level and its forms.
pub record IsThere (program : AffineProgram) (reader : ReadOf) (claim : SourceClaim) : Type 0 where
  pub statement : claim.statement < length program.statements
  pub level : IsLevel program claim.statement reader.statement claim.level
  pub point : length claim.point ≡ depth_of program claim.statement
  pub forms : AllByRecursion (IsSmallOver (variables_at program reader)) claim.point

-- Each list of a source's claim has the length called for.
pub record HasLists (program : AffineProgram) (reader : ReadOf) (tests : List AffineForm) (claim : SourceClaim) : Type 0 where
  pub inside : length claim.inside ≡ domain_size program claim.statement
  pub cell : length claim.cell ≡ 2 * length (reference_of program reader).subscripts
  pub before : length claim.before ≡ length (before_goals program reader claim)
  pub between : length claim.between ≡ length (writes_between program reader (context program reader tests) claim)

-- A source's claim fits: what it names is there, and each list has the length called for.
pub record SourceFits (program : AffineProgram) (reader : ReadOf) (tests : List AffineForm) (claim : SourceClaim) : Type 0 where
  pub there : IsThere program reader claim
  pub lists : HasLists program reader tests claim

-- a leaf fits
abbrev pub LeafFits : AffineProgram → ReadOf → List AffineForm → Leaf → Type 0
LeafFits program reader tests (source claim) = SourceFits program reader tests claim
LeafFits program reader tests (input_leaf shown) = length shown ≡ length (earlier_writes program reader (context program reader tests))
LeafFits program reader tests (empty shown) = ⊤
LeafFits program reader tests blank = ⊤

-- A tree fits the program under these tests: its tests are over the parameters and the reader's loop values, and its
-- leaves fit.
abbrev pub FitsUnder : AffineProgram → ReadOf → List AffineForm → SelectionTree → Type 0
FitsUnder program reader tests (leaf chosen) = LeafFits program reader tests chosen
FitsUnder program reader tests (test form above below) = IsSmallOver (variables_at program reader) form
    × FitsUnder program reader (tests ++ form ∷ []) above × FitsUnder program reader (tests ++ no_row (variables_at program reader) form ∷ []) below

abbrev pub TreeFits : AffineProgram → ReadOf → SelectionTree → Type 0
TreeFits program reader tree = FitsUnder program reader [] tree

-- the read is there
pub record ReadFits (program : AffineProgram) (reader : ReadOf) : Type 0 where
  pub statement : reader.statement < length program.statements
  pub read : reader.read < length (statement_at program reader.statement).reads

-- A valid source tree is true.
abbrev pub ValidTreesAreTrue : Type 0
ValidTreesAreTrue = (program : AffineProgram) (reader : ReadOf) (place : List Step) (tree : SelectionTree) → IsWellFormed program
    → ReadFits program reader → TreeFits program reader tree → IsValid program reader place tree → IsTrueTree program reader tree
