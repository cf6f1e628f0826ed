-- Lists of moves that keep to the red pebbles, whatever becomes of the blue ones and however often an instance is computed: a
-- complete pebbling is one, and so may be the moves of one processor among several, who share the blue pebbles. Their events.
use Rattle.std.specs.Prelude.{ℕ, ◌<◌, ◌≤◌, Bool, true, false, ⊤, IsTrue, List, [], ◌∷◌, slice_set, count_by, filter, fold}
use Rattle.std.specs.List.{AllByRecursion}
use Rattle.iolb_model.specs.declared.game.Move.{Move}
use Rattle.iolb_model.specs.declared.game.Move.TheVariants.{Load, Store, Compute, Drop, Erase}
use Rattle.iolb_model.specs.Graph.{ComputationGraph}
use Rattle.iolb_model.specs.Game.{marked, mark_count, predecessors_at, stands_in}

-- what a move does to the red marks
abbrev pub red_after : List Bool → Move → List Bool
red_after red (Load v) = slice_set red v true
red_after red (Store v) = red
red_after red (Compute v) = slice_set red v true
red_after red (Drop v) = slice_set red v false
red_after red (Erase v) = red

-- the red marks that the moves leave
abbrev pub final_red : List Bool → List Move → List Bool
final_red red moves = fold red_after red moves

-- a move computes an instance alone, and only where all its predecessors are red
abbrev pub ComputesFromRed : ComputationGraph → List Bool → Move → Type 0
ComputesFromRed graph red (Load v) = ⊤
ComputesFromRed graph red (Store v) = ⊤
ComputesFromRed graph red (Compute v) = (v < graph.instances) × AllByRecursion (λ u. IsTrue (marked red u)) (predecessors_at graph v)
ComputesFromRed graph red (Drop v) = ⊤
ComputesFromRed graph red (Erase v) = ⊤

-- from these red marks on there are never more than s, and each move computes so
abbrev pub IsRedRun : ComputationGraph → ℕ → List Bool → List Move → Type 0
IsRedRun graph s red [] = mark_count red ≤ s
IsRedRun graph s red (move ∷ moves) = (mark_count red ≤ s) × ComputesFromRed graph red move × IsRedRun graph s (red_after red move) moves

-- the vertices that are computed, in order
abbrev pub computed_vertices : List Move → List ℕ
computed_vertices [] = []
computed_vertices (Load v ∷ moves) = computed_vertices moves
computed_vertices (Store v ∷ moves) = computed_vertices moves
computed_vertices (Compute v ∷ moves) = v ∷ computed_vertices moves
computed_vertices (Drop v ∷ moves) = computed_vertices moves
computed_vertices (Erase v ∷ moves) = computed_vertices moves

-- how many computations of vertices of a set the moves make
abbrev pub computations_of : List ℕ → List Move → ℕ
computations_of set moves = count_by (stands_in set) (computed_vertices moves)

-- the vertices of a list that are computed
abbrev pub computed_among : List ℕ → List Move → List ℕ
computed_among vertices moves = filter (stands_in (computed_vertices moves)) vertices

-- an event is a load of one of these words or the computation of a credited vertex
abbrev pub is_event_of : List ℕ → List ℕ → Move → Bool
is_event_of words credited (Load v) = stands_in words v
is_event_of words credited (Store v) = false
is_event_of words credited (Compute v) = stands_in credited v
is_event_of words credited (Drop v) = false
is_event_of words credited (Erase v) = false

-- how many events there are
abbrev pub count_events : List ℕ → List ℕ → List Move → ℕ
count_events words credited moves = count_by (is_event_of words credited) moves
