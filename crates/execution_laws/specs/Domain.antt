-- Which instances an execution has. (Feautrier 1991.)
use Rattle.std.specs.Prelude.{◌≡◌, ◌↔◌, ℕ, ℤ, List}
use Rattle.iolb_model.specs.Program.{AffineProgram, IsWellFormed}
use Rattle.iolb_model.specs.Execution.{Instance}
use Rattle.iolb_model.specs.Domain.{IsInDomain, IsAt}

-- At any parameter values an instance stands in the execution exactly where its loop values are in its statement's domain.
abbrev pub DomainsAreExecuted : Type 0
DomainsAreExecuted = (program : AffineProgram) (parameters : List ℤ) (instance : Instance) → IsWellFormed program
    → ((place : ℕ) × IsAt program parameters place instance) ↔ IsInDomain program parameters instance

-- It stands there once.
abbrev pub InstancesAreExecutedOnce : Type 0
InstancesAreExecutedOnce = (program : AffineProgram) (parameters : List ℤ) (instance : Instance) (m n : ℕ) → IsWellFormed program
    → IsAt program parameters m instance → IsAt program parameters n instance → m ≡ n
