-- A partition is a joint partition with an image for each point and one labeling for each family: families that may share words
-- are one group, and families that don't are a group each.
use Rattle.std.proofs.Common.{◌≡◌, refl, sym, ◌∙◌, ap, subst, inl, inr, ℕ, zero, suc, ◌+◌, ◌-◌, ◌*◌, ◌^◌, ◌<◌, ◌≤◌, Bool, true, false, cond, List, [], ◌∷◌, ◌++◌, length, map, sum_by, arith, zero-add}
use Rattle.std.specs.Prelude.{ℤ, pos, nat_eq, filter, flat_map, Contains}
use Rattle.std.specs.List.{AllByRecursion, IsDistinct, range_with_len}
use Rattle.std.specs.Set.{distinct_count}
use Rattle.std.proofs.Math.Nat.{pow-suc}
use Rattle.std.proofs.lemmas.Bool.{false≢true, eq-eqb}
use Rattle.std.proofs.lemmas.List.{append-nil, length-map}
use Rattle.std.proofs.lemmas.List.FromFn.{get_or-map-range_with_len, length-map-range_with_len}
use Rattle.std.proofs.lemmas.List.Sums.{sum_by-cons}
use Rattle.execution_laws.proofs.Members.{Member, Contains-member}
use Rattle.execution_laws.proofs.Ordered.{Member-map_from}
use Rattle.iolb_model.specs.declared.game.Move.{Move}
use Rattle.iolb_model.specs.Footprint.{ArePairwiseDisjoint}
use Rattle.iolb_model.specs.Game.{stands_in}
use Rattle.iolb_model.specs.Graph.{ComputationGraph}
use Rattle.pebble_game.proofs.Marks.{member-stands}
use Rattle.uniform_cover.specs.Products.{product_by}
use Rattle.uniform_cover.specs.Projection.{same_point}
use Rattle.uniform_cover.proofs.Powers.{self_pow_pos}
use Rattle.uniform_cover.proofs.ProjectionLemmas.{point_decides}
use Rattle.stretch_laws.specs.Laws.{points_computed as joint_computed, start_label_count as joint_label_count}
use Rattle.stretch_laws.specs.Reuse.{BeginsWalk, CountedPoint, IsFactor, IsSoundJoint, JointPartition, WalkFamily, coordinate_of, group_weight, group_words, joint_weight, joint_words, labelings_factor, weight_factor, IsSoundFamily as IsSoundWalks, FixesCoordinates as FixesImages}
use Rattle.stretch_laws.specs.Runs.{computed_vertices}
use Rattle.stretch_laws.proofs.Points.{images, member-of}
use Rattle.k_partition.specs.Laws.{start_label_count}
use Rattle.k_partition.specs.Reuse.{AreApart, FixesCoordinates, IsSoundFamily, IsSoundPartition, ReuseFamily, ReusePartition, total_weight, words_of}
use Rattle.k_partition.specs.Runs.{points_computed}
use Rattle.k_partition.proofs.TermCovers.{mapped-twice}

-- ---- a partition as a joint one

abbrev pub walk_family : ReuseFamily → WalkFamily
walk_family family = record {
  labelings = record { words = family.words; label = family.label } ∷ [];
  start = λ point. family.start point.vertex;
  has = family.has;
  weight = family.weight;
}

abbrev pub counted_point : ReusePartition → ℕ → CountedPoint
counted_point partition v = record { vertex = v; image = map (partition.coordinate v) (range_with_len 0 partition.dimensions) }

abbrev pub joint_of : ReusePartition → List (List WalkFamily) → JointPartition
joint_of partition groups = record { points = map (counted_point partition) partition.points; dimensions = partition.dimensions; groups = groups; credited = partition.credited }

-- families in one group, and in a group each
abbrev pub together : List ReuseFamily → List (List WalkFamily)
together families = map walk_family families ∷ []

abbrev pub alone : ReuseFamily → List WalkFamily
alone family = walk_family family ∷ []

abbrev pub joint_each : ReusePartition → JointPartition
joint_each partition = joint_of partition (together partition.families)

abbrev pub joint_sum : ReusePartition → JointPartition
joint_sum partition = joint_of partition (map alone partition.families)

-- ---- words, weights and factors

words-together : (families : List ReuseFamily) → group_words (map walk_family families) ≡ flat_map (λ (family : ReuseFamily). family.words) families
words-together [] = refl
words-together (family ∷ families) =
    ap (λ (l : List ℕ). l ++ group_words (map walk_family families)) (append-nil family.words) ∙ ap (λ (l : List ℕ). family.words ++ l) (words-together families)

words-alone : (family : ReuseFamily) → group_words (alone family) ≡ family.words
words-alone family = append-nil (family.words ++ []) ∙ append-nil family.words

pub words-each : (partition : ReusePartition) → joint_words (joint_each partition) ≡ words_of partition
words-each partition = append-nil (group_words (map walk_family partition.families)) ∙ words-together partition.families

pub words-sum : (families : List ReuseFamily) → flat_map group_words (map alone families) ≡ flat_map (λ (family : ReuseFamily). family.words) families
words-sum [] = refl
words-sum (family ∷ families) =
    ap (λ (l : List ℕ). l ++ flat_map group_words (map alone families)) (words-alone family) ∙ ap (λ (l : List ℕ). family.words ++ l) (words-sum families)

sets-alone : (families : List ReuseFamily) → map group_words (map alone families) ≡ map (λ (family : ReuseFamily). family.words) families
sets-alone [] = refl
sets-alone (family ∷ families) =
    ap (λ (l : List ℕ). l ∷ map group_words (map alone families)) (words-alone family) ∙ ap (λ (l : List (List ℕ)). family.words ∷ l) (sets-alone families)

module _ (of : WalkFamily → ℕ) where
  sum-together : (families : List ReuseFamily) → sum_by of (map walk_family families) ≡ sum_by (λ (family : ReuseFamily). of (walk_family family)) families
  sum-together [] = refl
  sum-together (family ∷ families) =
      omega (arith, sum_by-cons of (walk_family family) (map walk_family families), sum_by-cons (λ (f : ReuseFamily). of (walk_family f)) family families, sum-together families)

  sum-each : (families : List ReuseFamily) → sum_by (sum_by of) (together families) ≡ sum_by (λ (family : ReuseFamily). of (walk_family family)) families
  sum-each families = omega (arith, sum_by-cons (sum_by of) (map walk_family families) [], sum-together families)

  sum-alone : (families : List ReuseFamily) → sum_by (sum_by of) (map alone families) ≡ sum_by (λ (family : ReuseFamily). of (walk_family family)) families
  sum-alone [] = refl
  sum-alone (family ∷ families) =
      omega (
        arith,
        sum_by-cons (sum_by of) (alone family) (map alone families),
        sum_by-cons of (walk_family family) [],
        sum_by-cons (λ (f : ReuseFamily). of (walk_family f)) family families,
        sum-alone families,
      )

pub weight-each : (partition : ReusePartition) → joint_weight (joint_each partition) ≡ total_weight partition
weight-each partition = sum-each (λ (family : WalkFamily). family.weight) partition.families

pub weight-sum : (partition : ReusePartition) → joint_weight (joint_sum partition) ≡ total_weight partition
weight-sum partition = sum-alone (λ (family : WalkFamily). family.weight) partition.families

one-power : (n : ℕ) → 1 ^ n ≡ 1
one-power zero = refl
one-power (suc n) = rw (pow-suc 1 n) (omega (arith, one-power n))

one-labeling : (families : List ReuseFamily) → labelings_factor (map walk_family families) ≡ 1
one-labeling [] = refl
one-labeling (family ∷ families) = ap (λ (n : ℕ). n * labelings_factor (map walk_family families)) (one-power family.weight) ∙ omega (arith, one-labeling families)

labelings-alone : (families : List ReuseFamily) → product_by labelings_factor (map alone families) ≡ 1
labelings-alone [] = refl
labelings-alone (family ∷ families) =
    let rest : product_by labelings_factor (map alone families) ≡ 1 = labelings-alone families in
    let one : 1 ^ family.weight ≡ 1 = one-power family.weight in
    rw (one, rest) (omega arith)

weights-alone : (families : List ReuseFamily) → product_by weight_factor (map alone families) ≡ product_by (λ (family : ReuseFamily). family.weight ^ family.weight) families
weights-alone [] = refl
weights-alone (family ∷ families) =
    ap (λ (n : ℕ). n ^ n * product_by weight_factor (map alone families)) (same family)
    ∙ ap (λ (n : ℕ). family.weight ^ family.weight * n) (weights-alone families) where
      same : (f : ReuseFamily) → group_weight (alone f) ≡ f.weight
      same f = omega (arith, sum_by-cons (λ (w : WalkFamily). w.weight) (walk_family f) [])

pub factor-each : (partition : ReusePartition) → IsFactor 1 1 (joint_each partition)
factor-each partition = record {
  positive = omega arith;
  ratio =
      let group : List WalkFamily = map walk_family partition.families in
      let whole : joint_weight (joint_each partition) ≡ group_weight group = omega (arith, sum_by-cons group_weight group []) in
      let one : labelings_factor group ≡ 1 = one-labeling partition.families in
      rw (whole, one) (omega arith);
}

pub factor-sum : (partition : ReusePartition)
    → IsFactor (product_by (λ (f : ReuseFamily). f.weight ^ f.weight) partition.families) (total_weight partition ^ total_weight partition) (joint_sum partition)
factor-sum partition = record {
  positive = self_pow_pos (total_weight partition);
  ratio =
      let whole : joint_weight (joint_sum partition) ≡ total_weight partition = weight-sum partition in
      let one : product_by labelings_factor (map alone partition.families) ≡ 1 = labelings-alone partition.families in
      let weights : product_by weight_factor (map alone partition.families) ≡ product_by (λ (f : ReuseFamily). f.weight ^ f.weight) partition.families = weights-alone partition.families in
      rw (whole, one, weights) (omega arith);
}

-- ---- points

module _ (partition : ReusePartition) where
  image-at : (v i : ℕ) → i < partition.dimensions → coordinate_of (counted_point partition v) i ≡ partition.coordinate v i
  image-at v i less = get_or-map-range_with_len (partition.coordinate v) 0 partition.dimensions i i (pos 0) less (zero-add i)

  image-long : (points : List ℕ) → AllByRecursion (λ (point : CountedPoint). length point.image ≡ partition.dimensions) (map (counted_point partition) points)
  image-long [] = tt
  image-long (v ∷ points) = (length-map-range_with_len (partition.coordinate v) 0 partition.dimensions, image-long points)

  module _ (told : (u v : ℕ) → stands_in partition.points u ≡ true → stands_in partition.points v ≡ true
      → ((i : ℕ) → i < partition.dimensions → partition.coordinate u i ≡ partition.coordinate v i) → u ≡ v) where
    -- different points have different images
    image-other : (v w : ℕ) → Member v partition.points → Member w partition.points → nat_eq v w ≡ false
        → same_point (counted_point partition v).image (counted_point partition w).image ≡ false
    image-other v w m n apart = by (same_point (counted_point partition v).image (counted_point partition w).image) refl where
      by : (b : Bool) → same_point (counted_point partition v).image (counted_point partition w).image ≡ b
          → same_point (counted_point partition v).image (counted_point partition w).image ≡ false
      by false e = e
      by true e =
          let one : (counted_point partition v).image ≡ (counted_point partition w).image = (point_decides (counted_point partition v).image (counted_point partition w).image).0 e in
          let same : v ≡ w = told v w (member-stands partition.points v m) (member-stands partition.points w n)
          (λ i less. sym (image-at v i less) ∙ ap (λ (l : List ℤ). coordinate_of (record { vertex = v; image = l }) i) one ∙ image-at w i less) in
          absurd (false≢true (sym apart ∙ eq-eqb v w same))

    images-apart : (v : ℕ) (points : List ℕ) → Member v partition.points → ((w : ℕ) → Member w points → Member w partition.points)
        → AllByRecursion (λ (y : ℕ). nat_eq v y ≡ false) points
        → AllByRecursion (λ (y : List ℤ). same_point (counted_point partition v).image y ≡ false) (images (map (counted_point partition) points))
    images-apart v [] m among apart = tt
    images-apart v (w ∷ points) m among apart = (image-other v w m (among w (inl refl)) apart.0, images-apart v points m (λ u n. among u (inr n)) apart.1)

    images-distinct : (points : List ℕ) → ((w : ℕ) → Member w points → Member w partition.points) → IsDistinct nat_eq points
        → IsDistinct same_point (images (map (counted_point partition) points))
    unfolding IsDistinct
    images-distinct [] among distinct = tt
    images-distinct (v ∷ points) among distinct =
        (images-apart v points (among v (inl refl)) (λ w m. among w (inr m)) distinct.0, images-distinct points (λ w m. among w (inr m)) distinct.1)

  -- the points that are computed
  module _ (moves : List Move) where
    left-same : (test : CountedPoint → Bool) (points : List ℕ)
        → filter test (map (counted_point partition) points) ≡ map (counted_point partition) (filter (λ (v : ℕ). test (counted_point partition v)) points)
    left-same test [] = refl
    left-same test (v ∷ points) = by (test (counted_point partition v)) (left-same test points) where
      by : (b : Bool) → filter test (map (counted_point partition) points) ≡ map (counted_point partition) (filter (λ (u : ℕ). test (counted_point partition u)) points)
          → cond b (counted_point partition v ∷ filter test (map (counted_point partition) points)) (filter test (map (counted_point partition) points))
          ≡ map (counted_point partition) (cond b (v ∷ filter (λ (u : ℕ). test (counted_point partition u)) points) (filter (λ (u : ℕ). test (counted_point partition u)) points))
      by true rest = ap (λ (l : List CountedPoint). counted_point partition v ∷ l) rest
      by false rest = rest

    computed-same : (groups : List (List WalkFamily)) → joint_computed (joint_of partition groups) moves ≡ map (counted_point partition) (points_computed partition moves)
    computed-same groups = left-same (λ (point : CountedPoint). stands_in (computed_vertices moves) point.vertex) partition.points

    pub computed-many : (groups : List (List WalkFamily)) → length (joint_computed (joint_of partition groups) moves) ≡ length (points_computed partition moves)
    computed-many groups = ap (λ (l : List CountedPoint). length l) (computed-same groups) ∙ length-map (points_computed partition moves) (counted_point partition)

    pub labels-same : (groups : List (List WalkFamily)) (family : ReuseFamily)
        → joint_label_count (joint_of partition groups) moves (walk_family family) ≡ start_label_count partition moves family
    labels-same groups family =
        ap (λ (l : List CountedPoint). distinct_count same_point (map (λ (point : CountedPoint). family.start point.vertex) l)) (computed-same groups)
        ∙ ap (distinct_count same_point) (mapped-twice (λ (point : CountedPoint). family.start point.vertex) (counted_point partition) (points_computed partition moves))

-- ---- soundness

module _ (graph : ComputationGraph) (q : ℕ) (partition : ReusePartition) (sound : IsSoundPartition graph q partition) where
  module _ (groups : List (List WalkFamily)) where
    abbrev joint : JointPartition
    joint = joint_of partition groups

    vertex-of : (point : CountedPoint) → Contains joint.points point → (v : ℕ) × (Member v partition.points × (point ≡ counted_point partition v))
    vertex-of point c = Member-map_from (counted_point partition) point partition.points (member-of point joint.points c)

    walks-sound : (family : ReuseFamily) → IsSoundFamily graph partition family → IsSoundWalks graph joint (walk_family family)
    walks-sound family is = record {
      begins = λ point c.
          let from = vertex-of point c in
          subst (BeginsWalk graph (walk_family family)) (sym from.1.1) (record {
            labeling = record { words = family.words; label = family.label };
            is = Contains-member (record { words = family.words; label = family.label }) (walk_family family).labelings (inl refl);
            reads = is.begins from.0 (member-stands partition.points from.0 from.1.0);
          });
      goes_on = (is.goes_on, tt);
    }

    images-fixed : (family : ReuseFamily) → FixesCoordinates partition family → FixesImages joint (walk_family family)
    images-fixed family fixes one other a b e i less has =
        let u = vertex-of one a in
        let v = vertex-of other b in
        ap (λ (p : CountedPoint). coordinate_of p i) u.1.1 ∙ image-at partition u.0 i less
        ∙ fixes u.0 v.0 (member-stands partition.points u.0 u.1.0) (member-stands partition.points v.0 v.1.0)
        (sym (ap (λ (p : CountedPoint). family.start p.vertex) u.1.1) ∙ e ∙ ap (λ (p : CountedPoint). family.start p.vertex) v.1.1) i less has
        ∙ sym (image-at partition v.0 i less) ∙ sym (ap (λ (p : CountedPoint). coordinate_of p i) v.1.1)

  each-family : (P : ReuseFamily → Type 0) (R : WalkFamily → Type 0) → ((family : ReuseFamily) → P family → R (walk_family family)) → (families : List ReuseFamily)
      → AllByRecursion P families → AllByRecursion R (map walk_family families)
  each-family P R f [] h = tt
  each-family P R f (family ∷ families) h = (f family h.0, each-family P R f families h.1)

  each-alone : (P : ReuseFamily → Type 0) (R : WalkFamily → Type 0) → ((family : ReuseFamily) → P family → R (walk_family family)) → (families : List ReuseFamily)
      → AllByRecursion P families → AllByRecursion (AllByRecursion R) (map alone families)
  each-alone P R f [] h = tt
  each-alone P R f (family ∷ families) h = ((f family h.0, tt), each-alone P R f families h.1)

  abbrev in_set : ℕ → WalkFamily → ℕ
  in_set i family = cond (family.has i) family.weight 0

  pub sound-each : IsSoundJoint graph q (joint_each partition)
  sound-each = record {
    sound = (each-family (IsSoundFamily graph partition) (IsSoundWalks graph (joint_each partition)) (walks-sound (together partition.families)) partition.families sound.sound, tt);
    cover = record {
      positive = sound.cover.positive;
      long = image-long partition partition.points;
      distinct = images-distinct partition sound.cover.told_apart partition.points (λ w m. m) sound.cover.distinct;
      fixed = (each-family (FixesCoordinates partition) (FixesImages (joint_each partition)) (images-fixed (together partition.families)) partition.families sound.cover.fixed, tt);
      covered = λ i less. subst (λ (n : ℕ). q ≤ n) (sym (sum-each (in_set i) partition.families)) (sound.cover.covered i less);
    };
    apart = (tt, tt);
  }

  pub sound-sum : AreApart partition → IsSoundJoint graph q (joint_sum partition)
  sound-sum apart = record {
    sound = each-alone (IsSoundFamily graph partition) (IsSoundWalks graph (joint_sum partition)) (walks-sound (map alone partition.families)) partition.families sound.sound;
    cover = record {
      positive = sound.cover.positive;
      long = image-long partition partition.points;
      distinct = images-distinct partition sound.cover.told_apart partition.points (λ w m. m) sound.cover.distinct;
      fixed = each-alone (FixesCoordinates partition) (FixesImages (joint_sum partition)) (images-fixed (map alone partition.families)) partition.families sound.cover.fixed;
      covered = λ i less. subst (λ (n : ℕ). q ≤ n) (sym (sum-alone (in_set i) partition.families)) (sound.cover.covered i less);
    };
    apart = subst ArePairwiseDisjoint (sym (sets-alone partition.families)) apart;
  }
