-- What comes of a schedule that is played with one size of the fast memory after another.
use Rattle.std.specs.Prelude.{◌≡◌, ℕ, ℤ, List, Some, None}
use Rattle.std.specs.List.{AllZip}
use Rattle.iolb_model.specs.Game.{loads, stores}
use Rattle.iolb_model.specs.Graph.{ComputationGraph, computation_graph}
use Rattle.iolb_model.specs.Program.{AffineProgram}
use Rattle.pebble_replay.specs.declared.fault.ReplayFault.TheVariants.{OutOfOrder as ComesLate, TooSmall as NeedsMore}
use Rattle.pebble_replay.specs.Order.{replay_fault}
use Rattle.pebble_replay.specs.Played.{played}
use Rattle.tile_sched.specs.declared.schedule.Key.{Key}
use Rattle.tile_sched.specs.declared.unplayed.Unplayed.TheVariants.{Assumption, TooMany, OutOfOrder, TooSmall}
use Rattle.tile_sched.specs.Plays.{IsOrdered}
use Rattle.comparisons.specs.declared.capacity.Capacity.{Capacity}
use Rattle.comparisons.specs.declared.plays.Played.{Played}
use Rattle.comparisons.specs.declared.plays.Played.TheVariants.{Totals, Refused}

-- What comes of an order with s words: the loads and stores of the moves that play it, or what keeps it from being played.
-- Assumptions and the number of vertices aren't up to the order.
abbrev pub IsOutcome : ComputationGraph → List ℕ → ℕ → Played → Type 0
IsOutcome graph order s (Totals loaded stored) =
    (replay_fault graph s order ≡ None) × (loaded ≡ loads (played graph s order)) × (stored ≡ stores (played graph s order))
IsOutcome graph order s (Refused (Assumption number)) = ⊥
IsOutcome graph order s (Refused TooMany) = ⊥
IsOutcome graph order s (Refused (OutOfOrder vertex source)) = replay_fault graph s order ≡ Some (ComesLate vertex source)
IsOutcome graph order s (Refused (TooSmall vertex need)) = replay_fault graph s order ≡ Some (NeedsMore vertex need)

-- what comes of an order with each of these capacities
abbrev pub AreOutcomes : ComputationGraph → List ℕ → List Capacity → List Played → Type 0
AreOutcomes graph order capacities all = AllZip (λ (capacity : Capacity) (outcome : Played). IsOutcome graph order capacity.words outcome) capacities all

-- what comes of the order of a schedule, on the computation graph of its program at the sizes, with each of these capacities
pub record IsPlayedOut (program : AffineProgram) (schedule : List (List Key)) (sizes : List ℤ) (capacities : List Capacity) (all : List Played) : Type 0 where
  pub order : List ℕ
  pub ordered : IsOrdered program schedule sizes order
  pub outcomes : AreOutcomes (computation_graph program sizes) order capacities all
