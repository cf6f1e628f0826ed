-- Schedules are played in one way, or refused in one.
use Rattle.std.specs.Prelude.{◌≡◌, ℕ, ℤ, List}
use Rattle.iolb_model.specs.Game.{IsCompletePebbling}
use Rattle.iolb_model.specs.Graph.{computation_graph}
use Rattle.iolb_model.specs.Program.{AffineProgram}
use Rattle.pebble_replay.specs.Played.{played}
use Rattle.tile_sched.specs.declared.schedule.Key.{Key}
use Rattle.tile_sched.specs.declared.unplayed.Unplayed.{Unplayed}
use Rattle.tile_sched.specs.Plays.{CanBePlayed, IsUnplayed}

-- a schedule that can be played has one order
abbrev pub PlayedOrdersAreOne : Type 0
PlayedOrdersAreOne = (program : AffineProgram) (schedule : List (List Key)) (sizes : List ℤ) (s : ℕ) (one other : List ℕ)
    → CanBePlayed program schedule sizes s one → CanBePlayed program schedule sizes s other → one ≡ other

-- one that can't is refused in one way
abbrev pub UnplayedAreOne : Type 0
UnplayedAreOne = (program : AffineProgram) (schedule : List (List Key)) (sizes : List ℤ) (s : ℕ) (one other : Unplayed)
    → IsUnplayed program schedule sizes s one → IsUnplayed program schedule sizes s other → one ≡ other

-- and none is both
abbrev pub PlayedOrRefused : Type 0
PlayedOrRefused = (program : AffineProgram) (schedule : List (List Key)) (sizes : List ℤ) (s : ℕ) (order : List ℕ) (unplayed : Unplayed)
    → CanBePlayed program schedule sizes s order → IsUnplayed program schedule sizes s unplayed → ⊥

-- What is played is a complete pebbling.
abbrev pub PlaysAreComplete : Type 0
PlaysAreComplete = (program : AffineProgram) (schedule : List (List Key)) (sizes : List ℤ) (s : ℕ) (order : List ℕ)
    → CanBePlayed program schedule sizes s order → IsCompletePebbling (computation_graph program sizes) s (played (computation_graph program sizes) s order)
