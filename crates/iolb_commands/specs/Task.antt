-- What a task asks for of a program and a certificate that meets the conditions, and what answers it.
use Rattle.std.specs.Prelude.{◌≡◌, ⊤, ℕ, ◌<◌, ◌≤◌, ℤ, List, map, Some}
use Rattle.std.specs.List.{AllByRecursion}
use Rattle.iolb_model.specs.declared.game.Move.{Move}
use Rattle.iolb_model.specs.Bound.{Bound, IsAdmitted, bound_value}
use Rattle.iolb_model.specs.Game.{IsCompletePebbling, loads}
use Rattle.iolb_model.specs.Graph.{computation_graph}
use Rattle.iolb_model.specs.Parallel.{ParallelMove, HoldsInParallel, IsCompleteParallelPebbling, moves_by, parallel_value}
use Rattle.iolb_model.specs.Tower.{HoldsAtLevels, IsCompleteTower, IsFastLevel, brings, capacity_up_to}
use Rattle.iolb_model.specs.declared.tower.TowerMove.{TowerMove}
use Rattle.iolb_model.specs.Headline.{BoundHolds}
use Rattle.iolb_model.specs.Printed.{bound_text}
use Rattle.iolb_model.specs.Program.{AffineProgram}
use Rattle.command_words.specs.Requests.{Task, checks, evaluates, shares, levels}
use Rattle.command_words.specs.Sizes.{NamedSize, values_for}
use Rattle.iolb_check.specs.declared.bound.Value.{Value}
use Rattle.iolb_check.specs.Bounds.{HasWideBranch, terms_of}
use Rattle.memory_levels.specs.Values.{IsWideAtLevels}
use Rattle.parallel_bound.specs.Widths.{HasWideParallelBranch}
use Rattle.iolb_commands.specs.Values.{levels_text, parallel_text, values_text}

-- the bound of a program with these values of terms
abbrev pub bound_with : AffineProgram → List (List Value) → Bound
bound_with program values = record { assumptions = program.assumptions; branches = map terms_of values }

-- The values of the branches and of the bound are printed at the sizes that are named, which meet the assumptions and at
-- which no value is beyond 128 bits.
pub record IsValued (s : ℕ) (named : List NamedSize) (program : AffineProgram) (values : List (List Value)) (text : List ℕ) : Type 0 where
  pub sizes : List ℤ
  pub given : values_for program.parameters named ≡ Some sizes
  pub some : 1 ≤ s
  pub admitted : IsAdmitted program sizes
  pub narrow : ¬ HasWideBranch sizes s values
  pub printed : text ≡ values_text (bound_with program values) sizes s

-- The value of the bound for so many processors is printed, likewise.
pub record IsShared (processors s : ℕ) (named : List NamedSize) (program : AffineProgram) (values : List (List Value)) (text : List ℕ) : Type 0 where
  pub sizes : List ℤ
  pub given : values_for program.parameters named ≡ Some sizes
  pub some_processor : 1 ≤ processors
  pub some : 1 ≤ s
  pub admitted : IsAdmitted program sizes
  pub narrow : ¬ HasWideParallelBranch sizes processors s values
  pub printed : text ≡ parallel_text processors (bound_with program values) sizes s

-- The values of the bound for the boundaries of levels of these capacities are printed, likewise.
pub record IsLevelled (capacities : List ℕ) (named : List NamedSize) (program : AffineProgram) (values : List (List Value)) (text : List ℕ) : Type 0 where
  pub sizes : List ℤ
  pub given : values_for program.parameters named ≡ Some sizes
  pub each : AllByRecursion (λ capacity. 1 ≤ capacity) capacities
  pub admitted : IsAdmitted program sizes
  pub narrow : ¬ IsWideAtLevels sizes capacities values
  pub printed : text ≡ levels_text (bound_with program values) sizes capacities

-- the text that answers a task: that of the bound, or those of its values
abbrev pub IsAnswer : Task → AffineProgram → List (List Value) → List ℕ → Type 0
IsAnswer checks program values text = text ≡ bound_text program.parameters (bound_with program values)
IsAnswer (evaluates s named) program values text = IsValued s named program values text
IsAnswer (shares processors s named) program values text = IsShared processors s named program values text
IsAnswer (levels capacities named) program values text = IsLevelled capacities named program values text

-- what is known of a bound that answers a task: that it holds, also in the game that the task is about
abbrev pub HoldsFor : Task → AffineProgram → Bound → Type 0
HoldsFor checks program bound = BoundHolds program bound
HoldsFor (evaluates s named) program bound = BoundHolds program bound
HoldsFor (shares processors s named) program bound = BoundHolds program bound × HoldsInParallel program bound
HoldsFor (levels capacities named) program bound = BoundHolds program bound × HoldsAtLevels program bound

-- At the sizes that are named every complete pebbling makes at least as many loads as the printed value; in every complete
-- parallel pebbling some processor does; and every complete play over the levels brings at least as many words over each
-- boundary as is printed for it. (Of a check nothing more is said than that its bound holds.)
abbrev pub LoadsAtLeast : Task → AffineProgram → List (List Value) → Type 0
LoadsAtLeast checks program values = ⊤
LoadsAtLeast (evaluates s named) program values = (sizes : List ℤ) (moves : List Move) → values_for program.parameters named ≡ Some sizes
    → IsCompletePebbling (computation_graph program sizes) s moves → bound_value (bound_with program values) sizes s ≤ loads moves
LoadsAtLeast (shares processors s named) program values = (sizes : List ℤ) (steps : List ParallelMove) → values_for program.parameters named ≡ Some sizes
    → IsCompleteParallelPebbling (computation_graph program sizes) processors s steps
    → ((busiest : ℕ) × (busiest < processors) × (parallel_value (bound_with program values) sizes processors s ≤ loads (moves_by busiest steps)))
LoadsAtLeast (levels capacities named) program values = (sizes : List ℤ) (steps : List TowerMove) → values_for program.parameters named ≡ Some sizes
    → IsCompleteTower (computation_graph program sizes) capacities steps → (boundary : ℕ) → IsFastLevel capacities boundary
    → bound_value (bound_with program values) sizes (capacity_up_to capacities boundary) ≤ brings boundary steps
