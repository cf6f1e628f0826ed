-- The code's cells, as those of the definitions.
use Rattle.std.specs.Prelude.{ℕ, ◌≤◌, ℤ, Bool, List, length, map}
use Rattle.std.specs.List.{AllByRecursion}
use Rattle.arrayvec.specs.ArrayVec.{ArrayVec}
use Rattle.iolb_model.specs.Program.{AffineProgram, IsOver, statement_at}
use Rattle.iolb_model.specs.Source.{Cell, same_cell, cell_of}
use Rattle.affine_program.specs.declared.reference.Reference.{Reference}
use Rattle.iolb_model.specs.declared.limits.TheConstants.{SUBSCRIPTS}

abbrev pub cell_view : ℕ × ArrayVec ℤ → Cell
cell_view cell = record { array = cell.0; subscripts = cell.1.items }

-- whether two of them are one cell
abbrev pub is_cell : ℕ × ArrayVec ℤ → ℕ × ArrayVec ℤ → Bool
is_cell x y = same_cell (cell_view x) (cell_view y)

-- a reference has at most 4 subscripts, each over so many variables
pub record Fits (variables : ℕ) (reference : Reference) : Type 0 where
  pub over : AllByRecursion (IsOver variables) reference.subs.items
  pub few : length reference.subs.items ≤ SUBSCRIPTS

-- the cell that an instance writes, by its statement and the values of the parameters and of its loops
abbrev pub cell_written : AffineProgram → ℕ × List ℤ → Cell
cell_written program at = cell_of (statement_at program at.0).writes at.1

-- and those that it reads, in the order of its reads, repeats included
abbrev pub cells_read : AffineProgram → ℕ × List ℤ → List Cell
cells_read program at = map (λ access. cell_of access at.1) (statement_at program at.0).reads
