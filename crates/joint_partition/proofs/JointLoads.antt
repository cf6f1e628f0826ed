-- Sound joint terms are loaded.
use Rattle.std.proofs.Common.{◌≡◌, refl, sym, ◌∙◌, ap, subst, ℕ, ◌+◌, ◌-◌, ◌*◌, ◌/◌, ◌^◌, ◌<◌, ◌≤◌, List, [], ◌∷◌, length, map, sum_by, arith}
use Rattle.std.specs.Prelude.{flat_map}
use Rattle.std.specs.List.{AllByRecursion}
use Rattle.std.proofs.Math.IntN.{ℤ}
use Rattle.std.proofs.lemmas.List.{length-append, length-map}
use Rattle.std.proofs.lemmas.List.FromFn.{length-map-range_with_len}
use Rattle.std.proofs.lemmas.List.Sums.{sum_by-cons}
use Rattle.base_laws.proofs.Lists.{All-append, All-map}
use Rattle.execution_laws.proofs.Members.{Member-map}
use Rattle.execution_laws.proofs.Ordered.{All-from, All-member}
use Rattle.iolb_model.specs.Program.{AffineProgram}
use Rattle.iolb_model.specs.Bound.{IsAdmitted, StretchNumbers, events_of, points_of}
use Rattle.iolb_model.specs.Execution.{Instance, execution}
use Rattle.iolb_model.specs.Game.{loads_of}
use Rattle.iolb_model.specs.Graph.{computation_graph}
use Rattle.domain_count.specs.Points.{count, points}
use Rattle.k_partition.proofs.GreatestUpTo.{greatest-is}
use Rattle.k_partition.proofs.TermCovers.{summed}
use Rattle.k_partition.proofs.TermLoads.{credits-few}
use Rattle.pebble_game.proofs.InputVertices.{slice_get-below}
use Rattle.reuse_paths.specs.FamilyFootprint.{instances_in}
use Rattle.reuse_paths.specs.Places.{IsExecuted, place_of}
use Rattle.stretch_laws.specs.Laws.{IsGreatestAt, JointsAreLoaded, RunsAreLoaded}
use Rattle.stretch_laws.specs.Reuse.{CountedPoint, IsFactor, IsSoundJoint, JointPartition, joint_words, WalkFamily, group_weight, joint_weight, labelings_factor, weight_factor}
use Rattle.uniform_cover.specs.Greatest.{IsGreatest}
use Rattle.uniform_cover.specs.Products.{product_by}
use Rattle.uniform_cover.proofs.ProductLemmas.{product_by-map}
use Rattle.joint_partition.specs.JointLoads.{HasJointNumbers, JointTermsAreLoaded, JointTermsAreLoadedInRuns, factor_over, factor_under, image_count, weight_in, weight_of}
use Rattle.joint_partition.specs.JointWords.{IsSoundPart, SoundJointTermsAreSound, counted_point, dimensions_of, families_in, group_numbers, joint_partition, labeling_at, part_points, walk_family}
use Rattle.joint_partition.specs.Term.{JointFamily, JointTerm, PartTerm, credited_nests}
use Rattle.joint_partition.proofs.GroupSums.{term-product, term-sum}
use Rattle.joint_partition.proofs.LowestTerms.{joint-numbers-are-positive}

module _ (program : AffineProgram) (term : JointTerm) (parameters : List ℤ) where
  abbrev partition : JointPartition
  partition = joint_partition program term parameters

  abbrev walk_of : JointFamily → WalkFamily
  walk_of family = walk_family program term parameters family

  abbrev group_at : ℕ → List WalkFamily
  group_at number = map walk_of (families_in term number)

  -- ---- weights and factors

  weight-at : (number : ℕ) → group_weight (group_at number) ≡ weight_in term number
  weight-at number = summed (λ (family : WalkFamily). family.weight) walk_of (families_in term number)

  weight-is : joint_weight partition ≡ weight_of term
  weight-is =
      summed group_weight group_at (group_numbers term) ∙ (λ i. sum_by (λ (number : ℕ). weight-at number i) (group_numbers term))
      ∙ term-sum (λ (family : JointFamily). family.weight) term

  labelings-at : (number : ℕ) → labelings_factor (group_at number) ≡ product_by (λ (family : JointFamily). length family.labels ^ family.weight) (families_in term number)
  labelings-at number =
      product_by-map (λ (family : WalkFamily). length family.labelings ^ family.weight) walk_of (families_in term number)
      ∙ (λ i. product_by (λ (family : JointFamily). length-map-range_with_len (labeling_at program term parameters family) 0 (length family.labels) i ^ family.weight) (families_in term number))

  labelings-are : product_by labelings_factor partition.groups ≡ product_by (λ (family : JointFamily). length family.labels ^ family.weight) term.families
  labelings-are =
      product_by-map labelings_factor group_at (group_numbers term) ∙ (λ i. product_by (λ (number : ℕ). labelings-at number i) (group_numbers term))
      ∙ term-product (λ (family : JointFamily). length family.labels ^ family.weight) term

  weights-are : product_by weight_factor partition.groups ≡ product_by (λ (number : ℕ). weight_in term number ^ weight_in term number) (group_numbers term)
  weights-are =
      product_by-map weight_factor group_at (group_numbers term)
      ∙ (λ i. product_by (λ (number : ℕ). weight-at number i ^ weight-at number i) (group_numbers term))

  module _ (numbers : StretchNumbers) (has : HasJointNumbers term numbers) where
    is-factor : IsFactor numbers.num numbers.den partition
    is-factor = record {
      positive = joint-numbers-are-positive term numbers has;
      ratio =
          ap (λ (w : ℕ). numbers.num * w ^ w) weight-is
          ∙ crossed numbers.num numbers.den has.factor.common (factor_over term) (factor_under term) has.factor.above has.factor.below
          ∙ sym (ap (λ (n : ℕ). numbers.den * (n * product_by weight_factor partition.groups)) labelings-are
          ∙ ap (λ (n : ℕ). numbers.den * (product_by (λ (family : JointFamily). length family.labels ^ family.weight) term.families * n)) weights-are);
    } where
      crossed : (num den common over under : ℕ) → num * common ≡ over → den * common ≡ under → num * under ≡ den * over
      crossed num den common over under e f = ap (λ (n : ℕ). num * n) (sym f) ∙ turned num den common ∙ ap (λ (n : ℕ). den * n) e where
        turned : (x y z : ℕ) → x * (y * z) ≡ y * (x * z)
        turned x y z = omega arith

    is-greatest : (s : ℕ) → 1 ≤ numbers.q → IsGreatestAt numbers.q numbers.num numbers.den (s + events_of numbers s) partition (points_of numbers s)
    is-greatest s positive =
        subst (λ (w : ℕ). IsGreatest numbers.q numbers.den (numbers.num * (s + events_of numbers s) ^ w) (points_of numbers s)) (has.m ∙ sym weight-is)
        (greatest-is numbers.q numbers.den (numbers.num * (s + events_of numbers s) ^ numbers.m) positive (joint-numbers-are-positive term numbers has))

  -- ---- points

  pub points-many : (parts : List PartTerm) → length (flat_map (part_points program parameters) parts) ≡ sum_by (λ (part : PartTerm). count part.nest parameters) parts
  points-many [] = refl
  points-many (part ∷ parts) =
      omega (
        arith,
        length-append (part_points program parameters part) (flat_map (part_points program parameters) parts),
        length-map (points part.nest parameters) (counted_point program parameters part),
        sum_by-cons (λ (p : PartTerm). count p.nest parameters) part parts,
        points-many parts,
      )

  pub points-there : IsAdmitted program parameters → (parts : List PartTerm) → AllByRecursion (IsSoundPart program (dimensions_of term)) parts
      → AllByRecursion (λ (point : CountedPoint). point.vertex < length (execution program parameters)) (flat_map (part_points program parameters) parts)
  points-there admitted [] sound = tt
  points-there admitted (part ∷ parts) sound =
      All-append (λ (point : CountedPoint). point.vertex < length (execution program parameters)) (part_points program parameters part) (flat_map (part_points program parameters) parts)
      (All-map (λ (point : CountedPoint). point.vertex < length (execution program parameters)) (counted_point program parameters part) (points part.nest parameters)
      (All-from (λ (x : List ℤ). place_of program parameters (instance_of x) < length (execution program parameters)) (points part.nest parameters)
      (λ x m. slice_get-below (execution program parameters) (place_of program parameters (instance_of x)) (instance_of x)
      (All-member (IsExecuted program parameters) (instances_in part.statement part.nest parameters) (instance_of x) (sound.0.instances parameters admitted)
      (Member-map instance_of x (points part.nest parameters) m)))))
      (points-there admitted parts sound.1) where
        instance_of : List ℤ → Instance
        instance_of values = record { statement = part.statement; values = values }

pub joint-terms-loaded-in-runs : SoundJointTermsAreSound → RunsAreLoaded → JointTermsAreLoadedInRuns
joint-terms-loaded-in-runs are loaded program term numbers parameters s n red moves formed admitted sound apart has run few =
    loaded (computation_graph program parameters) numbers.q numbers.num numbers.den s (events_of numbers s) (points_of numbers s) n (joint_partition program term parameters) red moves
    (subst (λ (q : ℕ). IsSoundJoint (computation_graph program parameters) q (joint_partition program term parameters)) (sym has.q) (are program term parameters formed admitted sound apart))
    (is-factor program term parameters numbers has) (is-greatest program term parameters numbers has s (omega (arith, has.q, sound.positive))) run few

pub joint-terms-loaded : SoundJointTermsAreSound → JointsAreLoaded → JointTermsAreLoaded
joint-terms-loaded are loaded program term numbers parameters s moves formed admitted sound apart has game =
    let graph = computation_graph program parameters in
    let joint = joint_partition program term parameters in
    let costs : events_of numbers s * ((length joint.points - 1) / points_of numbers s) ≤ loads_of (joint_words joint) moves + length joint.credited =
    loaded graph numbers.q numbers.num numbers.den s (events_of numbers s) (points_of numbers s) joint moves
    (subst (λ (q : ℕ). IsSoundJoint graph q joint) (sym has.q) (are program term parameters formed admitted sound apart))
    (points-there program term parameters admitted term.parts sound.parts)
    (is-factor program term parameters numbers has) (is-greatest program term parameters numbers has s (omega (arith, has.q, sound.positive))) game in
    let many : length joint.points ≡ image_count term parameters = points-many program term parameters term.parts in
    omega (
      arith,
      subst (λ (k : ℕ). events_of numbers s * ((k - 1) / points_of numbers s) ≤ loads_of (joint_words joint) moves + length joint.credited) many costs,
      credits-few program parameters (credited_nests term),
    )
