-- Places of instances in an execution.
use Rattle.std.specs.Prelude.{ℕ, ◌==◌, ◌&&◌, Bool, ℤ, List}
use Rattle.std.specs.List.{position_or_len}
use Rattle.std.specs.Ordering.{int_eq}
use lib.Pointwise.{pointwise}
use Rattle.iolb_model.specs.Program.{AffineProgram}
use Rattle.iolb_model.specs.Domain.{IsAt}
use Rattle.iolb_model.specs.Execution.{Instance, execution}

-- whether two instances are one
abbrev pub same_instance : Instance → Instance → Bool
same_instance a b = (a.statement == b.statement) && pointwise int_eq a.values b.values

-- the place of an instance in the execution, which is past its end where it isn't executed; and that it is executed
abbrev pub place_of : AffineProgram → List ℤ → Instance → ℕ
place_of program parameters instance = position_or_len (same_instance instance) (execution program parameters)

abbrev pub IsExecuted : AffineProgram → List ℤ → Instance → Type 0
IsExecuted program parameters instance = IsAt program parameters (place_of program parameters instance) instance
