-- Schedules: for each statement of a program its keys, as many for each.
use Rattle.std.specs.Prelude.{◌≡◌, ℕ, ◌+◌, ◌≤◌, List, length, Vec, map}
use Rattle.std.specs.Global.{Global}
use Rattle.std.specs.List.{AllByRecursion, enumerate_from}
use Rattle.iolb_model.specs.Program.{AffineProgram, IsOver}
use Rattle.affine_program.specs.Domain.{depth_of}
use Rattle.tile_sched.specs.declared.schedule.Key.{Key}

-- the keys of each statement
abbrev pub rows_of : List (Vec Key Global) → List (List Key)
rows_of rows = map (λ keys. keys.items) rows

-- how many variables the keys of a statement have: the parameters, and the loops around it
abbrev pub key_variables : AffineProgram → ℕ → ℕ
key_variables program statement = length program.parameters + depth_of program statement

-- a key over so many variables, with a divisor
pub record IsKey (variables : ℕ) (key : Key) : Type 0 where
  pub over : IsOver variables key.form
  pub divides : 1 ≤ key.divisor

-- the schedule has keys for each statement, over its variables, and as many for each
pub record IsSchedule (program : AffineProgram) (schedule : List (List Key)) : Type 0 where
  pub statements : length schedule ≡ length program.statements
  pub keys : AllByRecursion (λ (placed : ℕ × List Key). AllByRecursion (IsKey (key_variables program placed.0)) placed.1) (enumerate_from 0 schedule)
