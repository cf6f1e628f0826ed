-- Uses of vertices among the instances that come later in an order.
use Rattle.std.specs.Prelude.{◌≡◌, ℕ, suc, ◌-◌, ◌<◌, if◌then◌else◌, List, [], ◌∷◌, length, slice_index_or}
use Rattle.iolb_model.specs.Graph.{ComputationGraph}
use Rattle.iolb_model.specs.Game.{vertices}
use Rattle.pebble_replay.specs.Played.{reads, next_use}

-- the uses of a vertex in order, each by how many instances stand from it on
abbrev pub uses_of : ComputationGraph → List ℕ → ℕ → List ℕ
uses_of graph [] u = []
uses_of graph (w ∷ later) u = if reads graph u w then suc (length later) ∷ uses_of graph later u else uses_of graph later u

-- the first of some numbers, and 0 where there is none
abbrev pub first_or_zero : List ℕ → ℕ
first_or_zero [] = 0
first_or_zero (x ∷ xs) = x

-- how many instances stand from a vertex's next use on, and 0 where there is none
abbrev pub left_from : ComputationGraph → List ℕ → ℕ → ℕ
left_from graph later u = length later - next_use graph later u

-- there is a list for each vertex, of its uses
pub record AreUses (graph : ComputationGraph) (later : List ℕ) (uses : List (List ℕ)) : Type 0 where
  pub lists : length uses ≡ vertices graph
  pub each : (u : ℕ) → u < vertices graph → slice_index_or uses u [] ≡ uses_of graph later u
