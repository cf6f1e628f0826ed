-- How many points a stretch of moves computes, how many events lie between the computations of points, and so how many loads
-- a run makes, and a complete pebbling. (The partition argument of Hong and Kung 1981, by the uniform cover inequality of Loomis
-- and Whitney 1949 and of Bollobás and Thomason 1995.)
use Rattle.std.specs.Prelude.{◌≡◌, ℕ, ◌+◌, ◌-◌, ◌*◌, ◌/◌, ◌^◌, ◌<◌, ◌≤◌, nat_eq, true, Bool, List, ◌++◌, filter, length, map, sum_by}
use Rattle.std.specs.List.{AllByRecursion, IsDistinct}
use Rattle.std.specs.Set.{distinct_count}
use Rattle.iolb_model.specs.declared.game.Move.{Move}
use Rattle.iolb_model.specs.Graph.{ComputationGraph}
use Rattle.iolb_model.specs.Game.{IsCompletePebbling, first_board, loads_of, stands_in}
use Rattle.uniform_cover.specs.Greatest.{IsGreatest}
use Rattle.uniform_cover.specs.Projection.{same_point}
use Rattle.stretch_laws.specs.Reuse.{CountedPoint, WalkFamily, JointPartition, IsFactor, IsSoundJoint, joint_weight, joint_words}
use Rattle.stretch_laws.specs.Runs.{IsRedRun, computations_of, computed_vertices, count_events, final_red}

-- the points whose vertices are computed
abbrev pub points_computed : JointPartition → List Move → List CountedPoint
points_computed partition moves = filter (λ (point : CountedPoint). stands_in (computed_vertices moves) point.vertex) partition.points

-- loads of words and computations of credited vertices
abbrev pub events : JointPartition → List Move → ℕ
events partition moves = count_events (joint_words partition) partition.credited moves

-- how many different labels the starts of a family's walks have, from the points that are computed
abbrev pub start_label_count : JointPartition → List Move → WalkFamily → ℕ
start_label_count partition moves family = distinct_count same_point (map family.start (points_computed partition moves))

-- A stretch has the labels of so many words: each group has a number of them, together at most so many, and each of its families
-- has at most this number of start labels for each of its labelings.
pub record HoldsWords (partition : JointPartition) (stretch : List Move) (words : ℕ) : Type 0 where
  pub held : List WalkFamily → ℕ
  pub few : AllByRecursion (λ (group : List WalkFamily).
      AllByRecursion (λ (family : WalkFamily). start_label_count partition stretch family ≤ length family.labelings * held group) group) partition.groups
  pub together : sum_by held partition.groups ≤ words

-- u is the greatest number of points at k words, with the factor num over den
abbrev pub IsGreatestAt : ℕ → ℕ → ℕ → ℕ → JointPartition → ℕ → Type 0
IsGreatestAt q num den k partition u = IsGreatest q den (num * k ^ joint_weight partition) u

-- A stretch of a red run, which is any part of its moves, is one from the red marks at its start.
abbrev pub StretchesAreRedRuns : Type 0
StretchesAreRedRuns = (graph : ComputationGraph) (s : ℕ) (red : List Bool) (before stretch after : List Move)
    → IsRedRun graph s red (before ++ stretch ++ after) → IsRedRun graph s (final_red red before) stretch

-- A stretch of at most t events has the labels of at most s + t words, whatever is red at its start.
abbrev pub StretchesHoldWords : Type 0
StretchesHoldWords = (graph : ComputationGraph) (q s t : ℕ) (partition : JointPartition) (red : List Bool) (stretch : List Move)
    → IsSoundJoint graph q partition → IsRedRun graph s red stretch → events partition stretch ≤ t → HoldsWords partition stretch (s + t)

-- So at most u points are computed in it.
abbrev pub StretchesHoldPoints : Type 0
StretchesHoldPoints = (graph : ComputationGraph) (q num den s t u : ℕ) (partition : JointPartition) (red : List Bool) (stretch : List Move)
    → IsSoundJoint graph q partition → IsFactor num den partition → IsGreatestAt q num den (s + t) partition u → IsRedRun graph s red stretch → events partition stretch ≤ t
    → length (points_computed partition stretch) ≤ u

-- Where so many words are red at most, points that are computed take events: at most u points go into a stretch of t events.
abbrev pub PointsTakeEvents : Type 0
PointsTakeEvents = (graph : ComputationGraph) (q num den s t u : ℕ) (partition : JointPartition) (red : List Bool) (moves : List Move)
    → IsSoundJoint graph q partition → IsFactor num den partition → IsGreatestAt q num den (s + t) partition u → IsRedRun graph s red moves
    → (j : ℕ) → j * u < length (points_computed partition moves) → j * t ≤ events partition moves

-- So a run takes loads of words or computations of credited vertices: t for each u but the last of n points that are computed.
abbrev pub RunsAreLoaded : Type 0
RunsAreLoaded = (graph : ComputationGraph) (q num den s t u n : ℕ) (partition : JointPartition) (red : List Bool) (moves : List Move)
    → IsSoundJoint graph q partition → IsFactor num den partition → IsGreatestAt q num den (s + t) partition u → IsRedRun graph s red moves
    → n ≤ length (points_computed partition moves)
    → t * ((n - 1) / u) ≤ loads_of (joint_words partition) moves + computations_of partition.credited moves

-- Where no vertex is computed again, a set's vertices are computed at most as often as it has members.
abbrev pub DifferentComputationsAreFew : Type 0
DifferentComputationsAreFew = (set : List ℕ) (moves : List Move) → IsDistinct nat_eq (computed_vertices moves) → computations_of set moves ≤ length set

-- A complete pebbling is a red run that begins with nothing red and computes each instance, and no vertex again.
abbrev pub CompletePebblingsAreRuns : Type 0
CompletePebblingsAreRuns = (graph : ComputationGraph) (s : ℕ) (moves : List Move) → IsCompletePebbling graph s moves
    → IsRedRun graph s (first_board graph).red moves × IsDistinct nat_eq (computed_vertices moves)
    × ((v : ℕ) → v < graph.instances → stands_in (computed_vertices moves) v ≡ true)

-- So a complete pebbling loads words, where the points are instances: t for each u points but the last, less the credited vertices.
abbrev pub JointsAreLoaded : Type 0
JointsAreLoaded = (graph : ComputationGraph) (q num den s t u : ℕ) (partition : JointPartition) (moves : List Move)
    → IsSoundJoint graph q partition → AllByRecursion (λ (point : CountedPoint). point.vertex < graph.instances) partition.points
    → IsFactor num den partition → IsGreatestAt q num den (s + t) partition u → IsCompletePebbling graph s moves
    → t * ((length partition.points - 1) / u) ≤ loads_of (joint_words partition) moves + length partition.credited
