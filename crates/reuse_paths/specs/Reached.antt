-- Ways in a computation graph. (Paths of dependences, Feautrier 1991; Elango et al. 2014.)
use Rattle.std.specs.Prelude.{◌≡◌, ℕ, zero, suc, ◌<◌, Contains}
use Rattle.iolb_model.specs.Graph.{ComputationGraph}
use Rattle.iolb_model.specs.Game.{predecessors_at}

-- in so many steps from an instance to one of its predecessors
abbrev pub IsReachedIn : ComputationGraph → ℕ → ℕ → ℕ → Type 0
IsReachedIn graph zero from to = from ≡ to
IsReachedIn graph (suc steps) from to =
    (from < graph.instances) × (source : ℕ) × Contains (predecessors_at graph from) source × IsReachedIn graph steps source to

-- going from vertex to predecessor one vertex is reached from another
abbrev pub IsReached : ComputationGraph → ℕ → ℕ → Type 0
IsReached graph from to = (steps : ℕ) × IsReachedIn graph steps from to
