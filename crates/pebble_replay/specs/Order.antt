-- Orders of computation: which of them can be played, and what is wrong with the others.
use Rattle.std.specs.Prelude.{ℕ, suc, ◌<◌, nat_eq, nat_lt, List, [], ◌∷◌, length, IsTrue, find, Option, Some, None}
use Rattle.std.specs.List.{AllByRecursion, IsDistinct}
use Rattle.iolb_model.specs.Graph.{ComputationGraph}
use Rattle.iolb_model.specs.Game.{predecessors_at, stands_in}
use Rattle.pebble_replay.specs.declared.fault.ReplayFault.{ReplayFault}
use Rattle.pebble_replay.specs.declared.fault.ReplayFault.TheVariants.{OutOfOrder, TooSmall}

-- the order holds each instance once, and nothing else
pub record HoldsEachOnce (graph : ComputationGraph) (order : List ℕ) : Type 0 where
  pub there : AllByRecursion (λ v. v < graph.instances) order
  pub once : IsDistinct nat_eq order
  pub each : (v : ℕ) → v < graph.instances → IsTrue (stands_in order v)

-- the first predecessor of an instance that stands among those that come later
abbrev pub late_source : ComputationGraph → List ℕ → ℕ → Option ℕ
late_source graph later v = find (stands_in later) (predecessors_at graph v)

-- the fault of an instance with a source that comes later, or else that of the instances after it
abbrev pub late_or : Option ReplayFault → ℕ → Option ℕ → Option ReplayFault
late_or rest v None = rest
late_or rest v (Some u) = Some (OutOfOrder v u)

-- the first instance of the order with a source that comes later in it, with the first such source
abbrev pub order_fault : ComputationGraph → List ℕ → Option ReplayFault
order_fault graph [] = None
order_fault graph (v ∷ later) = late_or (order_fault graph later) v (late_source graph later v)

-- how many red pebbles it takes to compute an instance
abbrev pub need : ComputationGraph → ℕ → ℕ
need graph v = suc (length (predecessors_at graph v))

-- an instance that needs too many red pebbles, with their number
abbrev pub too_small : ComputationGraph → Option ℕ → Option ReplayFault
too_small graph None = None
too_small graph (Some v) = Some (TooSmall v (need graph v))

-- the first instance of the order that needs more than s red pebbles
abbrev pub size_fault : ComputationGraph → ℕ → List ℕ → Option ReplayFault
size_fault graph s order = too_small graph (find (λ v. nat_lt s (need graph v)) order)

-- the first fault, or else the second
abbrev pub first_of : Option ReplayFault → Option ReplayFault → Option ReplayFault
first_of None second = second
first_of (Some fault) second = Some fault

-- what keeps an order from being played with s red pebbles: a source that comes too late, over the whole order first
abbrev pub replay_fault : ComputationGraph → ℕ → List ℕ → Option ReplayFault
replay_fault graph s order = first_of (order_fault graph order) (size_fault graph s order)
