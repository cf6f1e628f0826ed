-- The values of a bound at the levels of a memory.
use Rattle.std.specs.Prelude.{◌≡◌, ⊤, ℕ, ℤ, List, length, map, Result, Ok, Err, Vec}
use Rattle.std.specs.Global.{Global}
use Rattle.affine_program.specs.Assumptions.{IsFirstUnmet}
use Rattle.affine_program.specs.Parts.{ProgramParts, meaning}
use Rattle.claims.specs.Claims.{FirstFails}
use Rattle.iolb_model.specs.Bound.{AreMet, Bound, bound_value}
use Rattle.iolb_model.specs.Tower.{HoldsAtLevels, IsFastLevel, capacity_up_to}
use Rattle.iolb_check.specs.Bounds.{BoundParts, HasWideBranch, bound_of}
use Rattle.iolb_check.specs.Claims.{claim_of_certificate}
use Rattle.iolb_check.specs.Conditions.{MeetsConditions, conditions}
use Rattle.iolb_check.specs.Limits.{CertificateParts}
use Rattle.iolb_check.specs.declared.bound.Value.{Value}
use Rattle.memory_levels.specs.Climbs.{boundaries}
use Rattle.memory_levels.specs.declared.level_values.ValuesFault.{ValuesFault}
use Rattle.memory_levels.specs.declared.level_values.ValuesFault.TheVariants as values_fault
use Rattle.memory_levels.specs.declared.level_bounds.LevelsFault.{LevelsFault}
use Rattle.memory_levels.specs.declared.level_bounds.LevelsFault.TheVariants as levels_fault

-- A bound's value at a boundary is that for one fast memory that holds as much as the levels up to it together.
abbrev pub value_at_level : Bound → List ℤ → List ℕ → ℕ → ℕ
value_at_level bound values capacities boundary = bound_value bound values (capacity_up_to capacities boundary)

-- at each boundary below a fast level, the fastest first
abbrev pub level_values : Bound → List ℤ → List ℕ → List ℕ
level_values bound values capacities = map (value_at_level bound values capacities) (boundaries (length capacities))

-- at one of the boundaries a branch is wide
pub record IsWideAtLevels (sizes : List ℤ) (capacities : List ℕ) (branches : List (List Value)) : Type 0 where
  pub boundary : ℕ
  pub fast : IsFastLevel capacities boundary
  pub wide : HasWideBranch sizes (capacity_up_to capacities boundary) branches

-- What an evaluation at levels answers: the values, where the assumptions are met and nothing is wide at any boundary; the first
-- assumption that isn't met; or that something is wide, where they are met. Want of memory says nothing.
abbrev pub EvaluatesAtLevels : BoundParts → List ℤ → List ℕ → Result (Vec ℕ Global) ValuesFault → Type 0
EvaluatesAtLevels parts sizes capacities (Ok values) =
    AreMet parts.assumed.rows sizes × (¬ IsWideAtLevels sizes capacities parts.branches) × (values.items ≡ level_values (bound_of parts) sizes capacities)
EvaluatesAtLevels parts sizes capacities (Err (values_fault.OutsideAssumption number)) = IsFirstUnmet parts.assumed.rows sizes number
EvaluatesAtLevels parts sizes capacities (Err values_fault.Wide) = AreMet parts.assumed.rows sizes × IsWideAtLevels sizes capacities parts.branches
EvaluatesAtLevels parts sizes capacities (Err values_fault.Memory) = ⊤

-- the bound of a program and a certificate that meets all conditions
pub record IsBoundOf (program : ProgramParts) (certificate : CertificateParts) (bound : BoundParts) : Type 0 where
  pub assumed : bound.assumed ≡ program.assumed
  pub meets : MeetsConditions (meaning program) (claim_of_certificate certificate) bound.branches
  pub holds : HoldsAtLevels (meaning program) (bound_of bound)

-- What is answered of a certificate at levels: the first condition that fails; else what an evaluation of its bound answers, which
-- holds at each level.
abbrev pub BoundsLevels : ProgramParts → CertificateParts → List ℤ → List ℕ → Result (Vec ℕ Global) LevelsFault → Type 0
BoundsLevels program certificate sizes capacities (Ok values) =
    (bound : BoundParts) × IsBoundOf program certificate bound × EvaluatesAtLevels bound sizes capacities (Ok values)
BoundsLevels program certificate sizes capacities (Err (levels_fault.Refused failed)) =
    FirstFails (conditions (meaning program) (claim_of_certificate certificate)) failed
BoundsLevels program certificate sizes capacities (Err (levels_fault.OutsideAssumption number)) =
    (bound : BoundParts) × IsBoundOf program certificate bound × IsFirstUnmet bound.assumed.rows sizes number
BoundsLevels program certificate sizes capacities (Err levels_fault.Wide) =
    (bound : BoundParts) × IsBoundOf program certificate bound × AreMet bound.assumed.rows sizes × IsWideAtLevels sizes capacities bound.branches
BoundsLevels program certificate sizes capacities (Err levels_fault.Memory) = ⊤
