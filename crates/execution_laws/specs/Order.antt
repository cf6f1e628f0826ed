-- In which order an execution has its instances. (Feautrier 1991.)
use Rattle.std.specs.Prelude.{◌↔◌, ℕ, ◌<◌, ℤ, List}
use Rattle.iolb_model.specs.Program.{AffineProgram, IsWellFormed}
use Rattle.iolb_model.specs.Execution.{Instance}
use Rattle.iolb_model.specs.Domain.{IsAt}
use Rattle.iolb_model.specs.Order.{PrecedesAt}

-- Of two instances in an execution one stands before the other exactly where it comes before it at some level.
abbrev pub OrderIsByLevels : Type 0
OrderIsByLevels = (program : AffineProgram) (parameters : List ℤ) (m n : ℕ) (a b : Instance) → IsWellFormed program
    → IsAt program parameters m a → IsAt program parameters n b → (m < n) ↔ ((level : ℕ) × PrecedesAt program level a b)
