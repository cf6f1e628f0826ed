-- What the laws of stretches say of a joint partition, said of the partition that it is.
use Rattle.std.proofs.Common.{◌≡◌, refl, sym, ap, subst, inl, inr, ℕ, ◌+◌, ◌-◌, ◌*◌, ◌/◌, ◌^◌, ◌<◌, ◌≤◌, List, [], ◌∷◌, length, map, sum_by, arith}
use Rattle.std.specs.List.{AllByRecursion}
use Rattle.std.proofs.lemmas.List.{length-map}
use Rattle.std.proofs.lemmas.List.Sums.{sum_by-cons}
use Rattle.execution_laws.proofs.Members.{Member}
use Rattle.iolb_model.specs.declared.game.Move.{Move}
use Rattle.iolb_model.specs.Game.{loads_of}
use Rattle.iolb_model.specs.Graph.{ComputationGraph}
use Rattle.pebble_game.proofs.Marks.{member-stands}
use Rattle.uniform_cover.specs.Greatest.{IsGreatest}
use Rattle.uniform_cover.specs.Products.{product_by}
use Rattle.stretch_laws.specs.Laws.{HoldsWords, IsGreatestAt, JointsAreLoaded, PointsTakeEvents, RunsAreLoaded, StretchesHoldPoints, StretchesHoldWords, events as joint_events, start_label_count as joint_label_count}
use Rattle.stretch_laws.specs.Reuse.{CountedPoint, WalkFamily, joint_words}
use Rattle.stretch_laws.specs.Runs.{computations_of, count_events}
use Rattle.k_partition.specs.Laws.{AreInstances, IsGreatestEach, IsGreatestSum, PartitionsAreLoadedEach, PartitionsAreLoadedSum, PointsTakeEventsEach, PointsTakeEventsSum, RunsAreLoadedEach, RunsAreLoadedSum, StretchesHoldLabelsEach, StretchesHoldLabelsSum, StretchesHoldPointsEach, StretchesHoldPointsSum, start_label_count}
use Rattle.k_partition.specs.Reuse.{ReuseFamily, ReusePartition, total_weight}
use Rattle.k_partition.specs.Runs.{events}
use Rattle.k_partition.proofs.Joints.{alone, computed-many, counted_point, factor-each, factor-sum, joint_each, joint_of, joint_sum, labels-same, sound-each, sound-sum, together, walk_family, weight-each, weight-sum, words-each, words-sum}

-- ---- what the laws ask for, and what they say

module _ (partition : ReusePartition) (moves : List Move) where
  events-each : joint_events (joint_each partition) moves ≡ events partition moves
  events-each = ap (λ (l : List ℕ). count_events l partition.credited moves) (words-each partition)

  events-sum : joint_events (joint_sum partition) moves ≡ events partition moves
  events-sum = ap (λ (l : List ℕ). count_events l partition.credited moves) (words-sum partition.families)

greatest-each : (q k u : ℕ) (partition : ReusePartition) → IsGreatestEach q k partition u → IsGreatestAt q 1 1 k (joint_each partition) u
greatest-each q k u partition greatest = subst (λ (w : ℕ). IsGreatest q 1 (1 * k ^ w) u) (sym (weight-each partition)) greatest

greatest-sum : (q k u : ℕ) (partition : ReusePartition) → IsGreatestSum q k partition u
    → IsGreatestAt q (product_by (λ (f : ReuseFamily). f.weight ^ f.weight) partition.families) (total_weight partition ^ total_weight partition) k (joint_sum partition) u
greatest-sum q k u partition greatest =
    subst (λ (w : ℕ). IsGreatest q (total_weight partition ^ total_weight partition) (product_by (λ (f : ReuseFamily). f.weight ^ f.weight) partition.families * k ^ w) u)
    (sym (weight-sum partition)) greatest

-- the labels of a group's words, for each family and together
few-each : (partition : ReusePartition) (moves : List Move) (groups : List (List WalkFamily)) (held words : ℕ) → held ≤ words → (families : List ReuseFamily)
    → AllByRecursion (λ (family : WalkFamily). joint_label_count (joint_of partition groups) moves family ≤ length family.labelings * held) (map walk_family families)
    → AllByRecursion (λ (family : ReuseFamily). start_label_count partition moves family ≤ words) families
few-each partition moves groups held words within [] h = tt
few-each partition moves groups held words within (family ∷ families) h =
    (omega (arith, labels-same partition moves groups family, h.0, within), few-each partition moves groups held words within families h.1)

few-sum : (partition : ReusePartition) (moves : List Move) (groups : List (List WalkFamily)) (held : List WalkFamily → ℕ) (families : List ReuseFamily)
    → AllByRecursion (λ (group : List WalkFamily).
    AllByRecursion (λ (family : WalkFamily). joint_label_count (joint_of partition groups) moves family ≤ length family.labelings * held group) group) (map alone families)
    → sum_by (λ (family : ReuseFamily). start_label_count partition moves family) families ≤ sum_by held (map alone families)
few-sum partition moves groups held [] h = omega arith
few-sum partition moves groups held (family ∷ families) h =
    omega (
      arith,
      sum_by-cons (λ (f : ReuseFamily). start_label_count partition moves f) family families,
      sum_by-cons held (alone family) (map alone families),
      labels-same partition moves groups family,
      h.0.0,
      few-sum partition moves groups held families h.1,
    )

pub stretches-hold-labels-each : StretchesHoldWords → StretchesHoldLabelsEach
stretches-hold-labels-each hold graph q s t partition red stretch sound run few =
    let holds : HoldsWords (joint_each partition) stretch (s + t) =
    hold graph q s t (joint_each partition) red stretch (sound-each graph q partition sound) run (omega (arith, events-each partition stretch, few)) in
    few-each partition stretch (together partition.families) (holds.held (map walk_family partition.families)) (s + t)
    (omega (arith, sum_by-cons holds.held (map walk_family partition.families) [], holds.together)) partition.families holds.few.0

pub stretches-hold-labels-sum : StretchesHoldWords → StretchesHoldLabelsSum
stretches-hold-labels-sum hold graph q s t partition red stretch sound apart run few =
    let holds : HoldsWords (joint_sum partition) stretch (s + t) =
    hold graph q s t (joint_sum partition) red stretch (sound-sum graph q partition sound apart) run (omega (arith, events-sum partition stretch, few)) in
    omega (arith, few-sum partition stretch (map alone partition.families) holds.held partition.families holds.few, holds.together)

pub stretches-hold-points-each : StretchesHoldPoints → StretchesHoldPointsEach
stretches-hold-points-each hold graph q s t u partition red stretch sound greatest run few =
    omega (
      arith,
      computed-many partition stretch (together partition.families),
      hold graph q 1 1 s t u (joint_each partition) red stretch (sound-each graph q partition sound) (factor-each partition) (greatest-each q (s + t) u partition greatest) run
          (omega (arith, events-each partition stretch, few)),
    )

pub stretches-hold-points-sum : StretchesHoldPoints → StretchesHoldPointsSum
stretches-hold-points-sum hold graph q s t u partition red stretch sound apart greatest run few =
    omega (
      arith,
      computed-many partition stretch (map alone partition.families),
      hold graph q (product_by (λ (f : ReuseFamily). f.weight ^ f.weight) partition.families) (total_weight partition ^ total_weight partition) s t u (joint_sum partition) red stretch
          (sound-sum graph q partition sound apart) (factor-sum partition) (greatest-sum q (s + t) u partition greatest) run (omega (arith, events-sum partition stretch, few)),
    )

pub take-events-each : PointsTakeEvents → PointsTakeEventsEach
take-events-each take graph q s t u partition red moves sound greatest run j many =
    omega (
      arith,
      events-each partition moves,
      take graph q 1 1 s t u (joint_each partition) red moves (sound-each graph q partition sound) (factor-each partition) (greatest-each q (s + t) u partition greatest) run j
          (omega (arith, computed-many partition moves (together partition.families), many)),
    )

pub take-events-sum : PointsTakeEvents → PointsTakeEventsSum
take-events-sum take graph q s t u partition red moves sound apart greatest run j many =
    omega (
      arith,
      events-sum partition moves,
      take graph q (product_by (λ (f : ReuseFamily). f.weight ^ f.weight) partition.families) (total_weight partition ^ total_weight partition) s t u (joint_sum partition) red moves
          (sound-sum graph q partition sound apart) (factor-sum partition) (greatest-sum q (s + t) u partition greatest) run j
          (omega (arith, computed-many partition moves (map alone partition.families), many)),
    )

module _ (partition : ReusePartition) (t u n : ℕ) (moves : List Move) (paid : ℕ) where
  abbrev IsPaid : List ℕ → Type 0
  IsPaid words = t * ((n - 1) / u) ≤ loads_of words moves + paid

pub runs-loaded-each : RunsAreLoaded → RunsAreLoadedEach
runs-loaded-each loaded graph q s t u n partition red moves sound greatest run few =
    subst (IsPaid partition t u n moves (computations_of partition.credited moves)) (words-each partition)
    (loaded graph q 1 1 s t u n (joint_each partition) red moves (sound-each graph q partition sound) (factor-each partition) (greatest-each q (s + t) u partition greatest) run
    (omega (arith, computed-many partition moves (together partition.families), few)))

pub runs-loaded-sum : RunsAreLoaded → RunsAreLoadedSum
runs-loaded-sum loaded graph q s t u n partition red moves sound apart greatest run few =
    subst (IsPaid partition t u n moves (computations_of partition.credited moves)) (words-sum partition.families)
    (loaded graph q (product_by (λ (f : ReuseFamily). f.weight ^ f.weight) partition.families) (total_weight partition ^ total_weight partition) s t u n (joint_sum partition) red moves
    (sound-sum graph q partition sound apart) (factor-sum partition) (greatest-sum q (s + t) u partition greatest) run
    (omega (arith, computed-many partition moves (map alone partition.families), few)))

-- the points of an instance of the law are instances too
points-there : (graph : ComputationGraph) (partition : ReusePartition) → AreInstances graph partition → (points : List ℕ) → ((v : ℕ) → Member v points → Member v partition.points)
    → AllByRecursion (λ (point : CountedPoint). point.vertex < graph.instances) (map (counted_point partition) points)
points-there graph partition are [] among = tt
points-there graph partition are (v ∷ points) among =
    (are.there v (member-stands partition.points v (among v (inl refl))), points-there graph partition are points (λ w m. among w (inr m)))

-- and as many as before
paid-points : (t u m n paid loads : ℕ) → m ≡ n → t * ((m - 1) / u) ≤ loads + paid → t * ((n - 1) / u) ≤ loads + paid
paid-points t u m n paid loads e h = subst (λ (k : ℕ). t * ((k - 1) / u) ≤ loads + paid) e h

pub partitions-loaded-each : JointsAreLoaded → PartitionsAreLoadedEach
partitions-loaded-each loaded graph q s t u partition moves sound are greatest game =
    subst (IsPaid partition t u (length partition.points) moves (length partition.credited)) (words-each partition)
    (paid-points t u (length (joint_each partition).points) (length partition.points) (length partition.credited) (loads_of (joint_words (joint_each partition)) moves)
    (length-map partition.points (counted_point partition))
    (loaded graph q 1 1 s t u (joint_each partition) moves (sound-each graph q partition sound) (points-there graph partition are partition.points (λ v m. m)) (factor-each partition)
    (greatest-each q (s + t) u partition greatest) game))

pub partitions-loaded-sum : JointsAreLoaded → PartitionsAreLoadedSum
partitions-loaded-sum loaded graph q s t u partition moves sound apart are greatest game =
    subst (IsPaid partition t u (length partition.points) moves (length partition.credited)) (words-sum partition.families)
    (paid-points t u (length (joint_sum partition).points) (length partition.points) (length partition.credited) (loads_of (joint_words (joint_sum partition)) moves)
    (length-map partition.points (counted_point partition))
    (loaded graph q (product_by (λ (f : ReuseFamily). f.weight ^ f.weight) partition.families) (total_weight partition ^ total_weight partition) s t u (joint_sum partition) moves
    (sound-sum graph q partition sound apart) (points-there graph partition are partition.points (λ v m. m)) (factor-sum partition) (greatest-sum q (s + t) u partition greatest) game))
