-- How many points a stretch of moves computes, how many events lie between the computations of points, and so how many loads
-- a run makes, and a complete pebbling.
use Rattle.std.specs.Prelude.{◌≡◌, ℕ, ◌+◌, ◌-◌, ◌*◌, ◌/◌, ◌^◌, ◌<◌, ◌≤◌, nat_eq, true, Bool, List, length, map, sum_by}
use Rattle.std.specs.List.{AllByRecursion, IsDistinct}
use Rattle.std.specs.Ordering.{int_eq}
use Rattle.std.specs.Set.{distinct_count}
use lib.Pointwise.{pointwise}
use Rattle.iolb_model.specs.declared.game.Move.{Move}
use Rattle.iolb_model.specs.Graph.{ComputationGraph}
use Rattle.iolb_model.specs.Game.{IsCompletePebbling, loads_of, stands_in}
use Rattle.uniform_cover.specs.Greatest.{IsGreatest}
use Rattle.uniform_cover.specs.Products.{product_by}
use Rattle.k_partition.specs.Reuse.{ReuseFamily, ReusePartition, AreApart, IsSoundPartition, total_weight, words_of}
use Rattle.k_partition.specs.Runs.{events, points_computed}
use Rattle.stretch_laws.specs.Runs.{IsRedRun, computations_of}

-- u is the greatest number of points at k labels for each family
abbrev pub IsGreatestEach : ℕ → ℕ → ReusePartition → ℕ → Type 0
IsGreatestEach q k partition u = IsGreatest q 1 (1 * k ^ total_weight partition) u

-- u is the greatest number of points at k labels for all families together
abbrev pub IsGreatestSum : ℕ → ℕ → ReusePartition → ℕ → Type 0
IsGreatestSum q k partition u =
    IsGreatest q (total_weight partition ^ total_weight partition) (product_by (λ (f : ReuseFamily). f.weight ^ f.weight) partition.families * k ^ total_weight partition) u

-- how many different labels the starts of a family's walks have, from the points that are computed
abbrev pub start_label_count : ReusePartition → List Move → ReuseFamily → ℕ
start_label_count partition moves family = distinct_count (pointwise int_eq) (map family.start (points_computed partition moves))

-- A stretch of at most t events has few start labels, whatever is red at its start: at most s + t in each family.
abbrev pub StretchesHoldLabelsEach : Type 0
StretchesHoldLabelsEach = (graph : ComputationGraph) (q s t : ℕ) (partition : ReusePartition) (red : List Bool) (stretch : List Move)
    → IsSoundPartition graph q partition → IsRedRun graph s red stretch → events partition stretch ≤ t
    → AllByRecursion (λ (family : ReuseFamily). start_label_count partition stretch family ≤ s + t) partition.families

-- where no two families have a word in common, at most s + t in all families together
abbrev pub StretchesHoldLabelsSum : Type 0
StretchesHoldLabelsSum = (graph : ComputationGraph) (q s t : ℕ) (partition : ReusePartition) (red : List Bool) (stretch : List Move)
    → IsSoundPartition graph q partition → AreApart partition → IsRedRun graph s red stretch → events partition stretch ≤ t
    → sum_by (λ (family : ReuseFamily). start_label_count partition stretch family) partition.families ≤ s + t

-- So at most u points are computed in it.
abbrev pub StretchesHoldPointsEach : Type 0
StretchesHoldPointsEach = (graph : ComputationGraph) (q s t u : ℕ) (partition : ReusePartition) (red : List Bool) (stretch : List Move)
    → IsSoundPartition graph q partition → IsGreatestEach q (s + t) partition u → IsRedRun graph s red stretch → events partition stretch ≤ t
    → length (points_computed partition stretch) ≤ u

abbrev pub StretchesHoldPointsSum : Type 0
StretchesHoldPointsSum = (graph : ComputationGraph) (q s t u : ℕ) (partition : ReusePartition) (red : List Bool) (stretch : List Move)
    → IsSoundPartition graph q partition → AreApart partition → IsGreatestSum q (s + t) partition u → IsRedRun graph s red stretch → events partition stretch ≤ t
    → length (points_computed partition stretch) ≤ u

-- Where so many words are red at most, points that are computed take events: at most u points go into a stretch of t events.
abbrev pub PointsTakeEventsEach : Type 0
PointsTakeEventsEach = (graph : ComputationGraph) (q s t u : ℕ) (partition : ReusePartition) (red : List Bool) (moves : List Move)
    → IsSoundPartition graph q partition → IsGreatestEach q (s + t) partition u → IsRedRun graph s red moves
    → (j : ℕ) → j * u < length (points_computed partition moves) → j * t ≤ events partition moves

abbrev pub PointsTakeEventsSum : Type 0
PointsTakeEventsSum = (graph : ComputationGraph) (q s t u : ℕ) (partition : ReusePartition) (red : List Bool) (moves : List Move)
    → IsSoundPartition graph q partition → AreApart partition → IsGreatestSum q (s + t) partition u → IsRedRun graph s red moves
    → (j : ℕ) → j * u < length (points_computed partition moves) → j * t ≤ events partition moves

-- So a run takes loads of words or computations of credited vertices: t for each u but the last of n points that are computed.
abbrev pub RunsAreLoadedEach : Type 0
RunsAreLoadedEach = (graph : ComputationGraph) (q s t u n : ℕ) (partition : ReusePartition) (red : List Bool) (moves : List Move)
    → IsSoundPartition graph q partition → IsGreatestEach q (s + t) partition u → IsRedRun graph s red moves → n ≤ length (points_computed partition moves)
    → t * ((n - 1) / u) ≤ loads_of (words_of partition) moves + computations_of partition.credited moves

abbrev pub RunsAreLoadedSum : Type 0
RunsAreLoadedSum = (graph : ComputationGraph) (q s t u n : ℕ) (partition : ReusePartition) (red : List Bool) (moves : List Move)
    → IsSoundPartition graph q partition → AreApart partition → IsGreatestSum q (s + t) partition u → IsRedRun graph s red moves → n ≤ length (points_computed partition moves)
    → t * ((n - 1) / u) ≤ loads_of (words_of partition) moves + computations_of partition.credited moves

-- the points are instances, and the credited vertices differ
pub record AreInstances (graph : ComputationGraph) (partition : ReusePartition) : Type 0 where
  pub there : (v : ℕ) → stands_in partition.points v ≡ true → v < graph.instances
  pub credits : IsDistinct nat_eq partition.credited

-- So a complete pebbling loads words: t for each u points but the last, less the credited vertices.
abbrev pub PartitionsAreLoadedEach : Type 0
PartitionsAreLoadedEach = (graph : ComputationGraph) (q s t u : ℕ) (partition : ReusePartition) (moves : List Move)
    → IsSoundPartition graph q partition → AreInstances graph partition → IsGreatestEach q (s + t) partition u → IsCompletePebbling graph s moves
    → t * ((length partition.points - 1) / u) ≤ loads_of (words_of partition) moves + length partition.credited

abbrev pub PartitionsAreLoadedSum : Type 0
PartitionsAreLoadedSum = (graph : ComputationGraph) (q s t u : ℕ) (partition : ReusePartition) (moves : List Move)
    → IsSoundPartition graph q partition → AreApart partition → AreInstances graph partition → IsGreatestSum q (s + t) partition u → IsCompletePebbling graph s moves
    → t * ((length partition.points - 1) / u) ≤ loads_of (words_of partition) moves + length partition.credited
