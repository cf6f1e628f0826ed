-- When a program has a graph at sizes for its parameters, and when it is refused.
use Rattle.std.specs.Prelude.{◌≡◌, ⊤, ◌≤◌, ℤ, List, length, Result, Ok, Err}
use Rattle.std.specs.List.{AllByRecursion}
use Rattle.iolb_model.specs.Program.{AffineProgram}
use Rattle.iolb_model.specs.Bound.{AreMet}
use Rattle.iolb_model.specs.Graph.{ComputationGraph, computation_graph}
use Rattle.iolb_model.specs.Game.{vertices}
use Rattle.affine_form.specs.Form.{IsSmall}
use Rattle.affine_program.specs.Assumptions.{IsFirstUnmet}
use Rattle.loop_graph.specs.Turns.{turns as turns_of}
use Rattle.loop_graph.specs.declared.fault.GraphFault.{GraphFault}
use Rattle.loop_graph.specs.declared.fault.GraphFault.TheVariants.{OutsideAssumption, TooMany, Memory}
use Rattle.loop_graph.specs.declared.limits.TheConstants.{VERTICES, TURNS}
use Rattle.iolb_model.specs.declared.limits.TheConstants.{VALUE_SIZE}

-- at most 2^24 turns of loops, each with a value of size below 2^40, and at most 2^21 vertices
pub record IsWithinReach (program : AffineProgram) (sizes : List ℤ) : Type 0 where
  pub small : AllByRecursion (IsSmall VALUE_SIZE) (turns_of program sizes)
  pub turns : length (turns_of program sizes) ≤ TURNS
  pub few : vertices (computation_graph program sizes) ≤ VERTICES

-- The graph, where the assumptions are met and it is within reach; the first assumption that isn't met; that there is too
-- much, where they are met and it isn't within reach; or want of memory.
abbrev pub Builds : AffineProgram → List ℤ → Result ComputationGraph GraphFault → Type 0
Builds program sizes (Ok graph) = AreMet program.assumptions sizes × IsWithinReach program sizes × (graph ≡ computation_graph program sizes)
Builds program sizes (Err (OutsideAssumption number)) = IsFirstUnmet program.assumptions sizes number
Builds program sizes (Err TooMany) = AreMet program.assumptions sizes × (¬ IsWithinReach program sizes)
Builds program sizes (Err Memory) = ⊤
