-- How many loads it takes that words meet, in any red run and in a complete pebbling.
use Rattle.std.specs.Prelude.{◌≡◌, ℕ, ◌+◌, ◌-◌, ◌*◌, ◌/◌, ◌<◌, ◌≤◌, max, Bool, List, length}
use Rattle.std.specs.List.{AllByRecursion}
use Rattle.iolb_model.specs.declared.game.Move.{Move}
use Rattle.iolb_model.specs.Graph.{ComputationGraph}
use Rattle.iolb_model.specs.Game.{IsCompletePebbling, loads_of, mark_count}
use Rattle.stretch_laws.specs.Laws.{points_computed}
use Rattle.stretch_laws.specs.Reuse.{CountedPoint}
use Rattle.stretch_laws.specs.Runs.{IsRedRun, computations_of}
use Rattle.pair_laws.specs.Pairs.{IsSoundPairs, PairPartition, labels_of_two, one_group, pair_words}

-- loads of words and computations of credited vertices
abbrev pub events : PairPartition → List Move → ℕ
events pairs moves = loads_of (pair_words pairs) moves + computations_of pairs.credited moves

-- At an event one word comes, and meets at most s - 1 others. So in a red run from any red marks, c of them, at most so many points
-- are computed: for each event s - 1 times the labels of two words, and c (c - 1) / 2 times these for the words that are red at the
-- start. (Both sides are doubled, and c times the labels are added to both.)
abbrev pub PointsTakeMeetings : Type 0
PointsTakeMeetings = (graph : ComputationGraph) (s : ℕ) (pairs : PairPartition) (red : List Bool) (moves : List Move) → IsSoundPairs graph pairs → IsRedRun graph s red moves
    → 2 * length (points_computed (one_group pairs) moves) + labels_of_two pairs * mark_count red
    ≤ 2 * (labels_of_two pairs * (s - 1) * events pairs moves) + labels_of_two pairs * (mark_count red * mark_count red)

-- how many points an event brings at most
abbrev pub points_of_event : PairPartition → ℕ → ℕ
points_of_event pairs s = labels_of_two pairs * max (s - 1) 1

-- So a red run from nothing red that computes n points, one at least, makes at least n over the points of an event, rounded up, loads
-- of words and computations of credited vertices together.
abbrev pub RunsMeetPairs : Type 0
RunsMeetPairs = (graph : ComputationGraph) (s n : ℕ) (pairs : PairPartition) (red : List Bool) (moves : List Move) → IsSoundPairs graph pairs → IsRedRun graph s red moves
    → mark_count red ≡ 0 → 1 ≤ n → n ≤ length (points_computed (one_group pairs) moves)
    → (n - 1) / points_of_event pairs s + 1 ≤ events pairs moves

-- And a complete pebbling loads words, where the points are instances: so many as all of them take, less the credited vertices.
abbrev pub PairsAreLoaded : Type 0
PairsAreLoaded = (graph : ComputationGraph) (s : ℕ) (pairs : PairPartition) (moves : List Move) → IsSoundPairs graph pairs
    → AllByRecursion (λ (point : CountedPoint). point.vertex < graph.instances) pairs.points → IsCompletePebbling graph s moves → 1 ≤ length pairs.points
    → (length pairs.points - 1) / points_of_event pairs s + 1 ≤ loads_of (pair_words pairs) moves + length pairs.credited
