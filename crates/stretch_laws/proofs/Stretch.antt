-- At most so many points are computed in a stretch of moves, by the uniform cover inequality.
use Rattle.std.proofs.Common.{◌≡◌, refl, sym, ◌∙◌, ap, subst, inl, inr, ℕ, ◌+◌, ◌*◌, ◌^◌, ◌≤◌, Bool, true, false, cond, List, [], ◌∷◌, ◌++◌, length, map, sum_by, arith, length-append, zero-add}
use Rattle.std.specs.Prelude.{ℤ, filter, flat_map, Contains, count_by}
use Rattle.std.specs.Cmp.Rules.{signed_items}
use Rattle.std.specs.List.{AllByRecursion}
use Rattle.std.proofs.lemmas.Bool.Decides.{Decides-int_eq}
use Rattle.std.specs.Ordering.{int_eq}
use Rattle.std.proofs.lemmas.Cmp.{int_eq_equiv, lists_equiv}
use Rattle.std.proofs.lemmas.List.{length-map}
use Rattle.std.proofs.lemmas.List.Sums.{sum_by-append, sum_by-cons, length-filter}
use Rattle.base_laws.proofs.Lists.{All-flat_map, All-map}
use Rattle.execution_laws.proofs.Members.{Member, Member-append_left, Member-append_right, Member-filter, Member-flat_map, Member-map, Contains-member}
use Rattle.execution_laws.proofs.Ordered.{All-from, All-member}
use Rattle.iolb_model.specs.declared.game.Move.{Move}
use Rattle.iolb_model.specs.declared.game.Move.TheVariants.{Load}
use Rattle.iolb_model.specs.Graph.{ComputationGraph}
use Rattle.iolb_model.specs.Game.{is_load, mark_count, loads, loads_of, loads_one_of, stands_in}
use Rattle.pebble_game.specs.Sets.{DisjointLoadsAddUp}
use Rattle.pebble_game.proofs.Marks.{all-contained, all-filtered, length-marked_from, marked-member, marked_from, member-stands, standing-member}
use Rattle.uniform_cover.specs.Cover.{Family, FixesSet, HasLabels, IsUniformCover}
use Rattle.uniform_cover.specs.Products.{product_by}
use Rattle.uniform_cover.specs.Projection.{same_point}
use Rattle.uniform_cover.proofs.ProductLemmas.{product_by-append, product_by-map}
use Rattle.uniform_cover.proofs.ProjectionLemmas.{point_decides}
use Rattle.uniform_cover.proofs.WeightLemmas.{cover_inequality}
use Rattle.stretch_laws.specs.Laws.{HoldsWords, IsGreatestAt, events, points_computed, start_label_count}
use Rattle.stretch_laws.specs.Reuse.{CountedPoint, FixesCoordinates, GoesOn, IsFactor, IsSoundFamily, IsSoundJoint, JointPartition, Labeling, WalkFamily, coordinate_of, group_words, joint_words, weight_at, words_in}
use Rattle.stretch_laws.specs.Runs.{IsRedRun, computed_vertices}
use Rattle.stretch_laws.proofs.Factors.{partition-within}
use Rattle.stretch_laws.proofs.Held.{event_vertices, length-event_vertices, value-held}
use Rattle.stretch_laws.proofs.Labels.{distinct-few}
use Rattle.stretch_laws.proofs.Points.{counted-decides, distinct-left, member-of, points-distinct, same_counted, told-apart}

-- what passes a test of which another follows passes that as often
counted-within : (p r : ℕ → Bool) → ((v : ℕ) → p v ≡ true → r v ≡ true) → (xs : List ℕ) → count_by p xs ≤ count_by r xs
counted-within p r h [] = omega arith
counted-within p r h (x ∷ xs) =
    omega (arith, sum_by-cons (λ (v : ℕ). cond (p v) 1 0) x xs, sum_by-cons (λ (v : ℕ). cond (r v) 1 0) x xs, by (p x) (r x) (h x), counted-within p r h xs) where
      by : (a b : Bool) → (a ≡ true → b ≡ true) → cond a 1 0 ≤ cond b 1 0
      by true b f = subst (λ (c : Bool). 1 ≤ cond c 1 0) (sym (f refl)) (omega arith)
      by false b f = omega arith

-- ---- the families of a stretch

module _ (graph : ComputationGraph) (q s t : ℕ) (partition : JointPartition) (sound : IsSoundJoint graph q partition) (red : List Bool) (moves : List Move)
    (run : IsRedRun graph s red moves) where
  -- the vertices whose labels are held
  abbrev held : List ℕ
  held = marked_from 0 red ++ event_vertices (joint_words partition) partition.credited moves

  abbrev labels_of : Labeling → List (List ℤ)
  labels_of labeling = map labeling.label (filter (stands_in labeling.words) held)

  abbrev labels_in : WalkFamily → List (List ℤ)
  labels_in family = flat_map labels_of family.labelings

  abbrev family_in : WalkFamily → Family CountedPoint (List ℤ)
  family_in family = record { has = family.has; weight = family.weight; label = family.start; labels = labels_in family }

  abbrev points : List CountedPoint
  points = points_computed partition moves

  -- how many of them are words of a group
  abbrev held_words : List WalkFamily → ℕ
  held_words group = count_by (stands_in (group_words group)) held

  red-few : (ms : List Move) (r : List Bool) → IsRedRun graph s r ms → mark_count r ≤ s
  red-few [] r h = h
  red-few (m ∷ ms) r h = h.0

  held-few : events partition moves ≤ t → length held ≤ s + t
  held-few few =
      omega (
        arith,
        length-append (marked_from 0 red) (event_vertices (joint_words partition) partition.credited moves),
        length-marked_from 0 red,
        length-event_vertices (joint_words partition) partition.credited moves,
        red-few moves red run,
        few,
      )

  is-point : AllByRecursion (Contains partition.points) points
  is-point =
      all-filtered (Contains partition.points) (λ (point : CountedPoint). stands_in (computed_vertices moves) point.vertex) partition.points
      (λ point m e. Contains-member point partition.points m)

  point-of : (point : CountedPoint) → Contains points point → Contains partition.points point
  point-of point c = all-contained (Contains partition.points) points point is-point c

  module _ (group : List WalkFamily) (among_groups : Member group partition.groups) (family : WalkFamily) (among : Member family group) where
    family-sound : IsSoundFamily graph partition family
    family-sound =
        All-member (IsSoundFamily graph partition) group family
        (All-member (AllByRecursion (IsSoundFamily graph partition)) partition.groups group sound.sound among_groups) among

    module _ (labeling : Labeling) (is : Member labeling family.labelings) where
      in-group : (v : ℕ) → stands_in labeling.words v ≡ true → stands_in (group_words group) v ≡ true
      in-group v word =
          member-stands (group_words group) v (Member-flat_map words_in family group v among
          (Member-flat_map (λ (l : Labeling). l.words) labeling family.labelings v is (standing-member labeling.words v word)))

      in-all : (v : ℕ) → stands_in labeling.words v ≡ true → stands_in (joint_words partition) v ≡ true
      in-all v word = member-stands (joint_words partition) v (Member-flat_map group_words group partition.groups v among_groups (standing-member (group_words group) v (in-group v word)))

      -- a word's label is held where its vertex is
      label-held : (v : ℕ) → Member v held → stands_in labeling.words v ≡ true → Contains (labels_in family) (labeling.label v)
      label-held v m word =
          Contains-member (labeling.label v) (labels_in family) (Member-flat_map labels_of labeling family.labelings (labeling.label v) is
          (Member-map labeling.label v (filter (stands_in labeling.words) held) (Member-filter (stands_in labeling.words) v held m word)))

    -- and so is the label of the start of each point that is computed
    start-held : (point : CountedPoint) → Contains partition.points point → Member point.vertex (computed_vertices moves) → Contains (labels_in family) (family.start point)
    start-held point c m =
        let begins = family-sound.begins point c in
        let labeling : Labeling = begins.labeling in
        let is : Member labeling family.labelings = member-of labeling family.labelings begins.is in
        value-held (joint_words partition) partition.credited graph s labeling
        (All-member (GoesOn graph partition.credited) family.labelings labeling family-sound.goes_on is)
        (in-all labeling is) (labels_in family) red moves run
        (λ w on word. label-held labeling is w (Member-append_left w (marked_from 0 red) (event_vertices (joint_words partition) partition.credited moves)
        (subst (λ (n : ℕ). Member n (marked_from 0 red)) (zero-add w) (marked-member 0 red w on))) word)
        (λ w n word. label-held labeling is w (Member-append_right w (marked_from 0 red) (event_vertices (joint_words partition) partition.credited moves) n) word)
        point.vertex (family.start point) begins.reads m

    starts-held : AllByRecursion (λ (point : CountedPoint). Contains (labels_in family) (family.start point)) points
    starts-held =
        all-filtered (λ (point : CountedPoint). Contains (labels_in family) (family.start point)) (λ (point : CountedPoint). stands_in (computed_vertices moves) point.vertex) partition.points
        (λ point m e. start-held point (Contains-member point partition.points m) (standing-member (computed_vertices moves) point.vertex e))

    -- so there are at most as many different ones
    starts-few : start_label_count partition moves family ≤ length (labels_in family)
    starts-few =
        distinct-few same_point (lists_equiv int_eq_equiv) signed_items (map family.start points) (labels_in family)
        (All-map (Contains (labels_in family)) family.start points starts-held)

    has-labels : HasLabels points (family_in family)
    has-labels point c = all-contained (λ (p : CountedPoint). Contains (labels_in family) (family.start p)) points point starts-held c

    fixes : FixesSet coordinate_of partition.dimensions points (family_in family)
    fixes one other a b e i less has =
        All-member (FixesCoordinates partition) group family (All-member (AllByRecursion (FixesCoordinates partition)) partition.groups group sound.cover.fixed among_groups) among
        one other (point-of one a) (point-of other b) e i less has

    -- each labeling has at most as many labels as words of the group are held
    labels-within : (labelings : List Labeling) → ((l : Labeling) → Member l labelings → Member l family.labelings) → length (flat_map labels_of labelings) ≤ length labelings * held_words group
    labels-within [] within = omega arith
    labels-within (labeling ∷ labelings) within =
        omega (
          arith,
          length-append (labels_of labeling) (flat_map labels_of labelings),
          length-map (filter (stands_in labeling.words) held) labeling.label,
          length-filter (stands_in labeling.words) held,
          counted-within (stands_in labeling.words) (stands_in (group_words group)) (in-group labeling (within labeling (inl refl))) held,
          labels-within labelings (λ l m. within l (inr m)),
        )

    labels-few : length (labels_in family) ≤ length family.labelings * held_words group
    labels-few = labels-within family.labelings (λ l m. m)

  -- what holds of each family of each group
  of-all : (P : WalkFamily → List WalkFamily → Type 0) → ((group : List WalkFamily) → Member group partition.groups → (family : WalkFamily) → Member family group → P family group)
      → AllByRecursion (λ (group : List WalkFamily). AllByRecursion (λ (family : WalkFamily). P family group) group) partition.groups
  of-all P h =
      All-from (λ (group : List WalkFamily). AllByRecursion (λ (family : WalkFamily). P family group) group) partition.groups
      (λ group m. All-from (λ (family : WalkFamily). P family group) group (λ family n. h group m family n))

  -- ---- groups without a common word hold at most so many words together

  loading : List ℕ → List Move
  loading [] = []
  loading (v ∷ vs) = Load v ∷ loading vs

  loads-loading : (vs : List ℕ) → loads (loading vs) ≡ length vs
  unfolding loading
  loads-loading [] = refl
  loads-loading (v ∷ vs) = omega (arith, sum_by-cons (λ (move : Move). cond (is_load move) 1 0) (Load v) (loading vs), loads-loading vs)

  loads_of-loading : (set vs : List ℕ) → loads_of set (loading vs) ≡ count_by (stands_in set) vs
  unfolding loading
  loads_of-loading set [] = refl
  loads_of-loading set (v ∷ vs) =
      omega (arith, sum_by-cons (λ (move : Move). cond (loads_one_of set move) 1 0) (Load v) (loading vs), sum_by-cons (λ (w : ℕ). cond (stands_in set w) 1 0) v vs, loads_of-loading set vs)

  words-loads : (groups : List (List WalkFamily)) → sum_by held_words groups ≡ sum_by (λ (set : List ℕ). loads_of set (loading held)) (map group_words groups)
  words-loads [] = refl
  words-loads (group ∷ groups) =
      omega (
        arith,
        sum_by-cons held_words group groups,
        sum_by-cons (λ (set : List ℕ). loads_of set (loading held)) (group_words group) (map group_words groups),
        loads_of-loading (group_words group) held,
        words-loads groups,
      )

  words-few : DisjointLoadsAddUp → events partition moves ≤ t → sum_by held_words partition.groups ≤ s + t
  words-few add_up few = omega (arith, words-loads partition.groups, add_up (loading held) (map group_words partition.groups) sound.apart, loads-loading held, held-few few)

  pub holds-words : DisjointLoadsAddUp → events partition moves ≤ t → HoldsWords partition moves (s + t)
  holds-words add_up few = record {
    held = held_words;
    few = of-all (λ family group. start_label_count partition moves family ≤ length family.labelings * held_words group)
        (λ group m family n. omega (arith, starts-few group m family n, labels-few group m family n));
    together = words-few add_up few;
  }

  -- ---- the cover

  abbrev cover_families : List (Family CountedPoint (List ℤ))
  cover_families = flat_map (λ (group : List WalkFamily). map family_in group) partition.groups

  all-families : (P : Family CountedPoint (List ℤ) → Type 0) → ((group : List WalkFamily) → Member group partition.groups → (family : WalkFamily) → Member family group → P (family_in family))
      → AllByRecursion P cover_families
  all-families P h =
      All-flat_map P (λ (group : List WalkFamily). map family_in group) partition.groups
      (All-from (λ (group : List WalkFamily). AllByRecursion P (map family_in group)) partition.groups
      (λ group m. All-map P family_in group (All-from (λ (family : WalkFamily). P (family_in family)) group (λ family n. h group m family n))))

  group-weights : (i : ℕ) (group : List WalkFamily) → sum_by (λ (f : Family CountedPoint (List ℤ)). cond (f.has i) f.weight 0) (map family_in group) ≡ weight_at i group
  group-weights i [] = refl
  group-weights i (family ∷ group) =
      sum_by-cons (λ (f : Family CountedPoint (List ℤ)). cond (f.has i) f.weight 0) (family_in family) (map family_in group)
      ∙ ap (λ (n : ℕ). cond (family.has i) family.weight 0 + n) (group-weights i group)
      ∙ sym (sum_by-cons (λ (f : WalkFamily). cond (f.has i) f.weight 0) family group)

  weights-same : (i : ℕ) (groups : List (List WalkFamily))
      → sum_by (λ (f : Family CountedPoint (List ℤ)). cond (f.has i) f.weight 0) (flat_map (λ (group : List WalkFamily). map family_in group) groups) ≡ sum_by (weight_at i) groups
  weights-same i [] = refl
  weights-same i (group ∷ groups) =
      omega (
        arith,
        sum_by-append (λ (f : Family CountedPoint (List ℤ)). cond (f.has i) f.weight 0) (map family_in group) (flat_map (λ (g : List WalkFamily). map family_in g) groups),
        group-weights i group,
        weights-same i groups,
        sum_by-cons (weight_at i) group groups,
      )

  is-cover : IsUniformCover same_counted q partition.dimensions coordinate_of points cover_families
  is-cover = record {
    positive = sound.cover.positive;
    distinct = distinct-left same_counted (λ (point : CountedPoint). stands_in (computed_vertices moves) point.vertex) partition.points (points-distinct partition.points sound.cover.distinct);
    told_apart = λ one other a b agree. told-apart partition.dimensions partition.points sound.cover.long sound.cover.distinct one other
        (member-of one partition.points (point-of one a)) (member-of other partition.points (point-of other b)) agree;
    fixed = all-families (FixesSet coordinate_of partition.dimensions points) (λ group m family n. fixes group m family n);
    held = all-families (HasLabels points) (λ group m family n. has-labels group m family n);
    covered = λ i less. subst (λ (n : ℕ). q ≤ n) (sym (weights-same i partition.groups)) (sound.cover.covered i less);
  }

  products-same : (groups : List (List WalkFamily))
      → product_by (λ (f : Family CountedPoint (List ℤ)). length f.labels ^ f.weight) (flat_map (λ (group : List WalkFamily). map family_in group) groups)
      ≡ product_by (λ (group : List WalkFamily). product_by (λ (family : WalkFamily). length (labels_in family) ^ family.weight) group) groups
  products-same [] = refl
  products-same (group ∷ groups) =
      product_by-append (λ (f : Family CountedPoint (List ℤ)). length f.labels ^ f.weight) (map family_in group) (flat_map (λ (g : List WalkFamily). map family_in g) groups)
      ∙ ap (λ (n : ℕ). n * product_by (λ (f : Family CountedPoint (List ℤ)). length f.labels ^ f.weight) (flat_map (λ (g : List WalkFamily). map family_in g) groups))
      (product_by-map (λ (f : Family CountedPoint (List ℤ)). length f.labels ^ f.weight) family_in group)
      ∙ ap (λ (n : ℕ). product_by (λ (family : WalkFamily). length (labels_in family) ^ family.weight) group * n) (products-same groups)

  pub holds-points : DisjointLoadsAddUp → (num den u : ℕ) → IsFactor num den partition → IsGreatestAt q num den (s + t) partition u → events partition moves ≤ t → length points ≤ u
  holds-points add_up num den u factor greatest few =
      let powers : length points ^ q ≤ product_by (λ (f : Family CountedPoint (List ℤ)). length f.labels ^ f.weight) cover_families =
      cover_inequality same_counted counted-decides int_eq Decides-int_eq same_point point_decides q partition.dimensions coordinate_of points cover_families is-cover in
      greatest.greatest (length points)
      (partition-within (λ (family : WalkFamily). length (labels_in family)) held_words num den (s + t) (length points ^ q) partition factor
      (of-all (λ family group. length (labels_in family) ≤ length family.labelings * held_words group) (λ group m family n. labels-few group m family n))
      (words-few add_up few) (subst (λ (n : ℕ). length points ^ q ≤ n) (products-same partition.groups) powers))
