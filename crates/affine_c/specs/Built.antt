-- What statements that are being built hold.
use Rattle.std.specs.Prelude.{◌≡◌, ℕ, suc, ◌+◌, ◌<◌, ◌≤◌, List, length, map, IsSomeAnd, ⊤}
use Rattle.std.specs.List.{AllByRecursion, enumerate_from}
use Rattle.iolb_model.specs.Order.{row_common}
use Rattle.iolb_model.specs.Form.{AffineForm}
use Rattle.iolb_model.specs.Path.{PathStep, bounds_on, guards_on, row_path}
use Rattle.iolb_model.specs.Program.{Row}
use Rattle.c_reading.specs.Access.{Access as ReadAccess}
use Rattle.c_reading.specs.Text.{Reading}
use Rattle.c_reading.specs.Tree.{Item, assign, loop, guard, Items, done, next}
use Rattle.c_grammar.specs.Well.{IsRowOver, IsStatementIn, parameters_of, statement_count}
use Rattle.affine_form.specs.Form.{variables, IsSmallForm}
use Rattle.affine_form.specs.Rows.{direction_of}
use Rattle.affine_program.specs.declared.statement.Statement.{Statement}
use Rattle.affine_program.specs.Limits.{IsStatementWithinLimits}
use Rattle.affine_program.specs.Parts.{StandOn}
use Rattle.iolb_model.specs.declared.limits.TheConstants.{LOOPS, GUARDS, PARAMETERS, STATEMENTS, NUMBER_SIZE}

-- a reference whose subscripts are over so many parameters and loops
abbrev pub AreRowsOver : ℕ → ℕ → ReadAccess → Type 0
AreRowsOver parameters depth access = AllByRecursion (IsRowOver parameters depth) access.subscripts

-- Items inside so many loops, and any guards: names of loops are there, and rows are over the parameters and the loops
-- around.
abbrev mutual
  pub IsItemInside : Reading → ℕ → Item → Type 0
  IsItemInside r depth (assign statement) = IsStatementIn r depth statement
  IsItemInside r depth (loop h body) =
      (h.name < length r.names) × (depth < LOOPS) × IsRowOver (length (parameters_of r)) depth h.lower × IsRowOver (length (parameters_of r)) depth h.upper
      × AreItemsInside r (suc depth) body
  IsItemInside r depth (guard rows body) = AllByRecursion (IsRowOver (length (parameters_of r)) depth) rows × AreItemsInside r depth body

  pub AreItemsInside : Reading → ℕ → Items → Type 0
  AreItemsInside r depth done = ⊤
  AreItemsInside r depth (next i items) = IsItemInside r depth i × AreItemsInside r depth items

-- a lower and an upper bound whose numbers are small
abbrev pub AreSmallBounds : AffineForm × AffineForm → Type 0
AreSmallBounds bounds = IsSmallForm NUMBER_SIZE bounds.0 × IsSmallForm NUMBER_SIZE bounds.1

-- what is gathered on a way: the bounds of its loops, and the rows of its guards
abbrev pub gathered : List PathStep → List (AffineForm × AffineForm) × List AffineForm
gathered path = (bounds_on path, guards_on path)

-- Bounds of loops and rows of guards that are within the limits and have small numbers, the rows over so many parameters
-- and these loops at most.
pub record AreShort (parameters : ℕ) (bounds : List (AffineForm × AffineForm)) (rows : List AffineForm) : Type 0 where
  pub few_bounds : length bounds ≤ LOOPS
  pub small_bounds : AllByRecursion AreSmallBounds bounds
  pub few_rows : length rows ≤ GUARDS
  pub small_rows : AllByRecursion (IsSmallForm NUMBER_SIZE) rows
  pub rows_over : AllByRecursion (λ row. variables row ≤ parameters + length bounds) rows

-- a way whose bounds and rows are so
abbrev pub IsShortWay : ℕ → List PathStep → Type 0
IsShortWay parameters path = AreShort parameters (bounds_on path) (guards_on path)

-- each of so many statements stands in the tree of a program with so many parameters, in few loops and guards
pub record HasShortWays (parameters : ℕ) (tree : Row) (many : ℕ) : Type 0 where
  pub ways : (number : ℕ) → number < many → IsSomeAnd (row_path tree number) (IsShortWay parameters)

-- the tree of what was read, with so many parameters
pub record IsTreeOf (r : Reading) (parameters : ℕ) (tree : Row) : Type 0 where
  pub few : parameters ≤ PARAMETERS
  pub parameters_are : parameters ≡ length (parameters_of r)
  pub statements : statement_count r.items ≤ STATEMENTS
  pub short : HasShortWays parameters tree (statement_count r.items)

-- A statement of a program with so many parameters has the bounds of the loops on the way to it in the tree, and the rows
-- of the guards.
abbrev pub StandsIn : ℕ → Row → ℕ × Statement → Type 0
StandsIn parameters tree placed =
    IsSomeAnd (row_path tree placed.0) (StandOn (parameters + length placed.1.bounds.items) placed.1.bounds.items placed.1.guards.items)

-- a statement's directions are those of the loops around it in the tree
abbrev pub RunsIn : Row → ℕ × Statement → Type 0
RunsIn tree placed = row_common tree placed.0 placed.0 ≡ map direction_of placed.1.down.items

-- statements within the limits, each with its bounds, its guards' rows and its directions in the tree
pub record ArePlaced (parameters : ℕ) (tree : Row) (statements : List Statement) : Type 0 where
  pub ways : AllByRecursion (StandsIn parameters tree) (enumerate_from 0 statements)
  pub directions : AllByRecursion (RunsIn tree) (enumerate_from 0 statements)
  pub limits : AllByRecursion IsStatementWithinLimits statements
