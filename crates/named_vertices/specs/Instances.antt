-- The instances of a program at values of its parameters, by their places in the order of execution.
use Rattle.std.specs.Prelude.{◌≡◌, ⊤, ◌≤◌, ℕ, ℤ, List, length, drop, map, Some, slice_get}
use Rattle.iolb_model.specs.Bound.{AreMet}
use Rattle.iolb_model.specs.Execution.{execution}
use Rattle.iolb_model.specs.Program.{AffineProgram}
use Rattle.affine_program.specs.Assumptions.{IsFirstUnmet}
use Rattle.loop_graph.specs.Rooms.{HasRoom}
use Rattle.loop_graph.specs.Runs.{run_of, with_point}
use Rattle.loop_graph.specs.Turns.{turns}
use Rattle.loop_graph.specs.declared.counted.Room.{Room}
use Rattle.loop_graph.specs.declared.limits.TheConstants.{TURNS, VERTICES}
use Rattle.loop_graph.specs.declared.listed.Run.{Run}
use Rattle.named_vertices.specs.declared.fault.Unnamed.{Unnamed}
use Rattle.named_vertices.specs.declared.fault.Unnamed.TheVariants.{Assumption, TooMany, Absent, Memory}
use Rattle.named_vertices.specs.declared.vertices.Named.{Named}
use Rattle.named_vertices.specs.declared.vertices.Named.TheVariants.{Instance, Input}

-- as many turns of loops and instances as a graph may have at most
abbrev pub room : Room
room = record { turns = TURNS; instances = VERTICES }

-- these are the instances of the execution, in its order
pub record AreInstances (program : AffineProgram) (values : List ℤ) (all : List Run) : Type 0 where
  pub met : AreMet program.assumptions values
  pub same : map run_of all ≡ map (with_point values) (execution program values)

-- Why they aren't listed: an assumption that is false, or that they are too many.
abbrev pub IsUnlisted : AffineProgram → List ℤ → Unnamed → Type 0
IsUnlisted program values (Assumption number) = IsFirstUnmet program.assumptions values number
IsUnlisted program values TooMany = ¬ HasRoom (turns program values) (length (execution program values)) room
IsUnlisted program values Absent = ⊥
IsUnlisted program values Memory = ⊤

-- the instance at a place is that of this statement at these loop values, behind so many parameters
pub record IsAt (all : List Run) (params statement : ℕ) (loops : List ℤ) (place : ℕ) : Type 0 where
  pub run : Run
  pub there : slice_get all place ≡ Some run
  pub statement_is : run.statement ≡ statement
  pub loops_are : drop params run.point.items ≡ loops

-- What the vertex of this number is: the instance there, or, behind all instances, an input.
abbrev pub IsVertex : List Run → ℕ → ℕ → Named → Type 0
IsVertex all params number (Instance statement loops) = IsAt all params statement loops.items number
IsVertex all params number (Input array subscripts) = length all ≤ number
