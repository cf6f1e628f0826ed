-- The parts of a program, and what they mean.
use Rattle.std.specs.Prelude.{◌≡◌, ℕ, ◌+◌, List, map, length, IsSomeAnd}
use Rattle.std.specs.List.{AllByRecursion, enumerate_from}
use Rattle.iolb_model.specs.Program.{Access, Array, Statement as ModelStatement, AffineProgram, IsWellFormed}
use Rattle.iolb_model.specs.Order.{row_common}
use Rattle.iolb_model.specs.Form.{AffineForm}
use Rattle.iolb_model.specs.Path.{PathStep, bounds_on, guards_on, row_path}
use Rattle.affine_form.specs.System.{AffineSystem}
use Rattle.affine_program.specs.declared.reference.Reference.{Reference}
use Rattle.affine_program.specs.declared.statement.Statement.{Statement}
use Rattle.affine_program.specs.declared.item.Item.{Item}
use Rattle.affine_program.specs.Tree.{row_of}
use Rattle.affine_program.specs.Limits.{IsWithinLimits}
use Rattle.affine_form.specs.Rows.{direction_of, widened}
use Rattle.affine_program.specs.Printable.{IsPrintable}

-- what a program of the code holds
pub record ProgramParts : Type 0 where
  pub params : List (List ℕ)
  pub assumed : AffineSystem
  pub arrays : List (List ℕ × ℕ)
  pub statements : List Statement
  pub tree : List Item

-- a reference
abbrev pub access_of : Reference → Access
access_of reference = record { array = reference.array; subscripts = reference.subs.items }

-- a statement's references
abbrev pub statement_of : Statement → ModelStatement
statement_of statement = record { writes = access_of statement.writes; reads = map access_of statement.reads.items }

-- an array, by its name and its number of subscripts
abbrev pub array_of : List ℕ × ℕ → Array
array_of pair = record { name = pair.0; rank = pair.1 }

-- the affine program that they are
abbrev pub meaning : ProgramParts → AffineProgram
meaning parts = record {
  parameters = parts.params;
  assumptions = parts.assumed.rows;
  arrays = map array_of parts.arrays;
  statements = map statement_of parts.statements;
  tree = row_of parts.tree;
}

-- these are the bounds of the loops on a way, and the rows of the guards on it, read over so many variables
abbrev pub StandOn : ℕ → List (AffineForm × AffineForm) → List AffineForm → List PathStep → Type 0
StandOn vars bounds guards path = (bounds_on path ≡ bounds) × (map (widened vars) (guards_on path) ≡ guards)

-- A statement of the tree has the bounds of the loops on the way to it, and the rows of the guards on it, read over so many
-- parameters and all these loops.
abbrev pub HasItsWay : ℕ → List Item → ℕ × Statement → Type 0
HasItsWay params tree placed =
    IsSomeAnd (row_path (row_of tree) placed.0) (StandOn (params + length placed.1.bounds.items) placed.1.bounds.items placed.1.guards.items)

-- What a program keeps: it is well formed, its assumptions are over the parameters, each statement has the bounds and
-- the directions of the loops around it and the rows of the guards, the parts are within their limits, and some text
-- means it.
pub record IsProgram (parts : ProgramParts) : Type 0 where
  pub well_formed : IsWellFormed (meaning parts)
  pub assumed : parts.assumed.vars ≡ length parts.params
  pub ways : AllByRecursion (HasItsWay (length parts.params) parts.tree) (enumerate_from 0 parts.statements)
  pub directions : AllByRecursion (λ (placed : ℕ × Statement). row_common (row_of parts.tree) placed.0 placed.0 ≡ map direction_of placed.1.down.items) (enumerate_from 0 parts.statements)
  pub limits : IsWithinLimits parts.params parts.assumed parts.arrays parts.statements
  pub printable : IsPrintable (meaning parts)
