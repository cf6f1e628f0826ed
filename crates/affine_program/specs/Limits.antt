-- The limits of a program's parts.
use Rattle.std.specs.Prelude.{ℕ, ◌≤◌, List, length}
use Rattle.std.specs.List.{AllByRecursion}
use Rattle.iolb_model.specs.Form.{AffineForm}
use Rattle.affine_form.specs.Form.{IsSmallForm}
use Rattle.affine_form.specs.System.{AffineSystem}
use Rattle.affine_program.specs.declared.reference.Reference.{Reference}
use Rattle.affine_program.specs.declared.statement.Statement.{Statement}
use Rattle.iolb_model.specs.declared.limits.TheConstants.{LOOPS, GUARDS, PARAMETERS, STATEMENTS, ARRAYS, SUBSCRIPTS, READS, ASSUMPTIONS, NUMBER_SIZE}

-- a reference's numbers are of size below 2^20
abbrev pub IsSmallReference : Reference → Type 0
IsSmallReference reference = AllByRecursion (IsSmallForm NUMBER_SIZE) reference.subs.items

-- the loops and the rows of guards around a statement and its reads are within the limits, and its numbers are small
pub record IsStatementWithinLimits (statement : Statement) : Type 0 where
  pub depth : length statement.bounds.items ≤ LOOPS
  pub bounds : AllByRecursion (λ (bounds : AffineForm × AffineForm). IsSmallForm NUMBER_SIZE bounds.0 × IsSmallForm NUMBER_SIZE bounds.1) statement.bounds.items
  pub guards : length statement.guards.items ≤ GUARDS
  pub guarded : AllByRecursion (IsSmallForm NUMBER_SIZE) statement.guards.items
  pub written : IsSmallReference statement.writes
  pub reads : length statement.reads.items ≤ READS
  pub read : AllByRecursion IsSmallReference statement.reads.items

-- parameters, assumptions, arrays with their subscripts and statements are within the limits, and numbers are small
pub record IsWithinLimits (names : List (List ℕ)) (rows : AffineSystem) (ranked : List (List ℕ × ℕ)) (table : List Statement) : Type 0 where
  pub parameters : length names ≤ PARAMETERS
  pub assumptions : length rows.rows ≤ ASSUMPTIONS
  pub assumed : AllByRecursion (IsSmallForm NUMBER_SIZE) rows.rows
  pub arrays : length ranked ≤ ARRAYS
  pub ranks : AllByRecursion (λ (array : List ℕ × ℕ). array.1 ≤ SUBSCRIPTS) ranked
  pub statements : length table ≤ STATEMENTS
  pub each : AllByRecursion IsStatementWithinLimits table
