-- Which schedules of a program can be played at sizes of its parameters with so many red pebbles, and why others can't.
use Rattle.std.specs.Prelude.{◌≡◌, ⊤, ℕ, ℤ, List, Some, None, Result, Ok, Err}
use Rattle.iolb_model.specs.declared.game.Move.{Move}
use Rattle.iolb_model.specs.Bound.{AreMet}
use Rattle.iolb_model.specs.Graph.{ComputationGraph, computation_graph}
use Rattle.iolb_model.specs.Program.{AffineProgram}
use Rattle.affine_program.specs.Assumptions.{IsFirstUnmet}
use Rattle.loop_graph.specs.Builds.{IsWithinReach}
use Rattle.pebble_replay.specs.declared.fault.ReplayFault.{ReplayFault}
use Rattle.pebble_replay.specs.declared.fault.ReplayFault.TheVariants.{OutOfOrder as ComesLate, TooSmall as NeedsMore}
use Rattle.pebble_replay.specs.Order.{replay_fault}
use Rattle.pebble_replay.specs.Played.{played}
use Rattle.pebble_replay.specs.Player.{StandsFor, pebbles_of, place_of}
use Rattle.pebble_replay.specs.declared.player.Player.{Player}
use Rattle.tile_sched.specs.declared.schedule.Key.{Key}
use Rattle.tile_sched.specs.Order.{IsOrder, said}
use Rattle.tile_sched.specs.declared.unplayed.Unplayed.{Unplayed}
use Rattle.tile_sched.specs.declared.unplayed.Unplayed.TheVariants.{Assumption, TooMany, OutOfOrder, TooSmall}
use Rattle.tile_sched.specs.declared.unplayed.PlayFault.{PlayFault}
use Rattle.tile_sched.specs.declared.unplayed.PlayFault.TheVariants.{Refused, Memory}

-- a graph, an order of its instances, and how many red pebbles there are
pub record Setting : Type 0 where
  pub graph : ComputationGraph
  pub order : List ℕ
  pub s : ℕ

-- the moves that play the order: to make room, the word goes whose next use is furthest
abbrev pub moves_of : Setting → List Move
moves_of setting = played setting.graph setting.s setting.order

-- The sizes meet the assumptions, the program's computation graph at them is within reach, and this is the order of the
-- schedule.
pub record IsOrdered (program : AffineProgram) (schedule : List (List Key)) (sizes : List ℤ) (order : List ℕ) : Type 0 where
  pub met : AreMet program.assumptions sizes
  pub reach : IsWithinReach program sizes
  pub order_is : IsOrder (said program sizes schedule) order

-- So the schedule can be played: nothing keeps its order from being played on the program's computation graph with s red
-- pebbles.
pub record CanBePlayed (program : AffineProgram) (schedule : List (List Key)) (sizes : List ℤ) (s : ℕ) (order : List ℕ) : Type 0 where
  pub ordered : IsOrdered program schedule sizes order
  pub free : replay_fault (computation_graph program sizes) s order ≡ None

-- this keeps the order of the schedule from being played
abbrev pub IsKept : AffineProgram → List (List Key) → List ℤ → ℕ → ReplayFault → Type 0
IsKept program schedule sizes s fault =
    (order : List ℕ) × IsOrdered program schedule sizes order × (replay_fault (computation_graph program sizes) s order ≡ Some fault)

-- Why it can't be played: the first assumption that is false; then that the graph is out of reach; then the first instance
-- of the order with a source that comes later, and its first such source; then the first instance that needs more red pebbles
-- than there are.
abbrev pub IsUnplayed : AffineProgram → List (List Key) → List ℤ → ℕ → Unplayed → Type 0
IsUnplayed program schedule sizes s (Assumption number) = IsFirstUnmet program.assumptions sizes number
IsUnplayed program schedule sizes s TooMany = AreMet program.assumptions sizes × (¬ IsWithinReach program sizes)
IsUnplayed program schedule sizes s (OutOfOrder vertex source) = IsKept program schedule sizes s (ComesLate vertex source)
IsUnplayed program schedule sizes s (TooSmall vertex need) = IsKept program schedule sizes s (NeedsMore vertex need)

-- the play of a schedule at sizes with s red pebbles
pub record IsPlayOf (program : AffineProgram) (schedule : List (List Key)) (sizes : List ℤ) (s : ℕ) (setting : Setting) : Type 0 where
  pub graph : setting.graph ≡ computation_graph program sizes
  pub pebbles : setting.s ≡ s
  pub can : CanBePlayed program schedule sizes s setting.order

-- The play; or why there is none; or want of memory.
abbrev pub Readies : AffineProgram → List (List Key) → List ℤ → ℕ → Result Setting PlayFault → Type 0
Readies program schedule sizes s (Ok setting) = IsPlayOf program schedule sizes s setting
Readies program schedule sizes s (Err (Refused unplayed)) = IsUnplayed program schedule sizes s unplayed
Readies program schedule sizes s (Err Memory) = ⊤

-- ---- its parts

-- the graph, or why there is none
abbrev pub GivesGraph : AffineProgram → List ℤ → Result ComputationGraph PlayFault → Type 0
GivesGraph program sizes (Ok graph) = AreMet program.assumptions sizes × IsWithinReach program sizes × (graph ≡ computation_graph program sizes)
GivesGraph program sizes (Err (Refused (Assumption number))) = IsFirstUnmet program.assumptions sizes number
GivesGraph program sizes (Err (Refused TooMany)) = AreMet program.assumptions sizes × (¬ IsWithinReach program sizes)
GivesGraph program sizes (Err (Refused (OutOfOrder vertex source))) = ⊥
GivesGraph program sizes (Err (Refused (TooSmall vertex need))) = ⊥
GivesGraph program sizes (Err Memory) = ⊤

-- a player stands before the first instance of an order, with s red pebbles
pub record IsAtStart (graph : ComputationGraph) (order : List ℕ) (s : ℕ) (player : Player) : Type 0 where
  pub stands : StandsFor graph order player
  pub first : place_of player ≡ 0
  pub pebbles : pebbles_of player ≡ s

-- the player, or what keeps the order from being played
abbrev pub GivesPlayer : ComputationGraph → List ℕ → ℕ → Result Player PlayFault → Type 0
GivesPlayer graph order s (Ok player) = IsAtStart graph order s player × (replay_fault graph s order ≡ None)
GivesPlayer graph order s (Err (Refused (Assumption number))) = ⊥
GivesPlayer graph order s (Err (Refused TooMany)) = ⊥
GivesPlayer graph order s (Err (Refused (OutOfOrder vertex source))) = replay_fault graph s order ≡ Some (ComesLate vertex source)
GivesPlayer graph order s (Err (Refused (TooSmall vertex need))) = replay_fault graph s order ≡ Some (NeedsMore vertex need)
GivesPlayer graph order s (Err Memory) = ⊤
