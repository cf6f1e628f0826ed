-- What is answered of a program, a certificate and a number of processors.
use Rattle.std.specs.Prelude.{◌≡◌, ⊤, ℕ, ◌<◌, ◌≤◌, ℤ, List, Result, Ok, Err}
use Rattle.iolb_model.specs.Program.{AffineProgram}
use Rattle.iolb_model.specs.Bound.{AreMet}
use Rattle.iolb_model.specs.Graph.{computation_graph}
use Rattle.iolb_model.specs.Game.{loads}
use Rattle.iolb_model.specs.Parallel.{IsCompleteParallelPebbling, ParallelMove, moves_by, parallel_value}
use Rattle.affine_program.specs.Assumptions.{IsFirstUnmet}
use Rattle.affine_program.specs.Parts.{ProgramParts, meaning}
use Rattle.claims.specs.Claims.{FirstFails}
use Rattle.iolb_check.specs.Bounds.{BoundParts, bound_of}
use Rattle.iolb_check.specs.Claims.{claim_of_certificate}
use Rattle.iolb_check.specs.Conditions.{MeetsConditions, conditions}
use Rattle.iolb_check.specs.Limits.{CertificateParts}
use Rattle.iolb_check.specs.declared.bound.Value.{Value}
use Rattle.parallel_bound.specs.Widths.{HasWideParallelBranch}
use Rattle.parallel_bound.specs.declared.fault.ParallelFault.{ParallelFault}
use Rattle.parallel_bound.specs.declared.fault.ParallelFault.TheVariants.{Refused, OutsideAssumption, Wide, Memory}

-- in every complete parallel pebbling at these parameter values some processor makes so many loads
abbrev pub SomeProcessorLoads : AffineProgram → List ℤ → ℕ → ℕ → ℕ → Type 0
SomeProcessorLoads program values processors s least = (steps : List ParallelMove) → IsCompleteParallelPebbling (computation_graph program values) processors s steps
    → ((busiest : ℕ) × (busiest < processors) × (least ≤ loads (moves_by busiest steps)))

-- the values of a certificate's terms, by branch: it meets the conditions with these alone
abbrev pub HasValues : ProgramParts → CertificateParts → List (List Value) → Type 0
HasValues program certificate branches = MeetsConditions (meaning program) (claim_of_certificate certificate) branches

-- the bound of a program and of terms' values
abbrev pub bound_with : ProgramParts → List (List Value) → BoundParts
bound_with program branches = record { assumed = program.assumed; branches = branches }

-- The first condition that fails; where all are met, the first assumption that isn't met; where all are, that something is
-- wide, or else the value.
abbrev pub AnswersInParallel : ProgramParts → CertificateParts → List ℤ → ℕ → ℕ → Result ℕ ParallelFault → Type 0
AnswersInParallel program certificate sizes processors s (Ok value) =
    (branches : List (List Value)) × (HasValues program certificate branches × AreMet program.assumed.rows sizes × (¬ HasWideParallelBranch sizes processors s branches)
    × (value ≡ parallel_value (bound_of (bound_with program branches)) sizes processors s))
AnswersInParallel program certificate sizes processors s (Err (Refused failed)) = FirstFails (conditions (meaning program) (claim_of_certificate certificate)) failed
AnswersInParallel program certificate sizes processors s (Err (OutsideAssumption number)) =
    (branches : List (List Value)) × (HasValues program certificate branches × IsFirstUnmet program.assumed.rows sizes number)
AnswersInParallel program certificate sizes processors s (Err Wide) =
    (branches : List (List Value)) × (HasValues program certificate branches × AreMet program.assumed.rows sizes × HasWideParallelBranch sizes processors s branches)
AnswersInParallel program certificate sizes processors s (Err Memory) = ⊤
