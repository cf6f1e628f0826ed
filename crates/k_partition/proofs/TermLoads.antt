-- Sound partition terms are loaded.
use Rattle.std.proofs.Common.{◌≡◌, refl, sym, ◌∙◌, ap, subst, ℕ, ◌+◌, ◌-◌, ◌*◌, ◌/◌, ◌^◌, ◌≤◌, List, [], ◌∷◌, ◌++◌, length, map, arith}
use Rattle.std.specs.Prelude.{nat_eq, not, Bool, flat_map, sum_by}
use Rattle.std.specs.List.{IsDistinct}
use Rattle.std.proofs.Math.IntN.{ℤ}
use Rattle.std.proofs.lemmas.List.{length-map, length-append}
use Rattle.std.proofs.lemmas.List.Sums.{sum_by-cons, length-filter, count_by-le-length}
use Rattle.iolb_model.specs.declared.game.Move.{Move}
use Rattle.iolb_model.specs.Program.{AffineProgram}
use Rattle.iolb_model.specs.Execution.{Instance}
use Rattle.iolb_model.specs.Footprint.{ArePairwiseDisjoint}
use Rattle.iolb_model.specs.Bound.{points_of}
use Rattle.iolb_model.specs.Game.{first_board, loads_of, stands_in}
use Rattle.iolb_model.specs.Graph.{computation_graph, distinct}
use Rattle.domain_count.specs.Points.{points, count}
use Rattle.reuse_paths.specs.Families.{CreditedNest, FamilyForms}
use Rattle.reuse_paths.specs.FamilyFootprint.{instances_in}
use Rattle.reuse_paths.specs.Places.{place_of}
use Rattle.uniform_cover.specs.Greatest.{IsGreatest}
use Rattle.uniform_cover.specs.Products.{product_by}
use Rattle.k_partition.specs.declared.term.Shape.{Shape}
use Rattle.k_partition.specs.declared.term.Shape.TheVariants.{Each, Sum}
use Rattle.k_partition.specs.Laws.{IsGreatestEach, IsGreatestSum, RunsAreLoadedEach, RunsAreLoadedSum, StretchesHoldLabelsEach, StretchesHoldLabelsSum, StretchesHoldPointsEach, StretchesHoldPointsSum}
use Rattle.k_partition.specs.Reuse.{ReuseFamily, ReusePartition, AreApart, total_weight, words_of}
use Rattle.k_partition.specs.ReusedWords.{counted_points, credited_vertices, nest_vertices, reuse_family, reuse_partition}
use Rattle.k_partition.specs.Term.{PartitionTerm, credited_nests}
use Rattle.k_partition.specs.TermLoads.{footprint_in, term_footprint, weight_of, stretch_of, IsGreatestOf, AreApartFor, credited_count, SoundTermsAreLoaded}
use Rattle.k_partition.specs.TermRuns.{AreLabelsFew, SoundTermsAreLoadedInRuns, SoundTermsSplit, StretchesOfTermsAreSmall, stretch_numbers}
use Rattle.k_partition.proofs.TermCovers.{mapped-twice, summed, sound-terms-are-sound}
use Rattle.k_partition.proofs.TermNumbers.{greatest-of}
use Rattle.pebble_game.proofs.Marks.{member-stands}
use Rattle.stretch_laws.specs.Laws.{CompletePebblingsAreRuns, DifferentComputationsAreFew}
use Rattle.stretch_laws.specs.Runs.{computations_of, computed_among, computed_vertices}
use Rattle.stretch_laws.proofs.CompletePebblings.{all-left}

distinct-few : {X : Type 0} (same : X → X → Bool) (xs : List X) → length (distinct same xs) ≤ length xs
distinct-few same [] = omega arith
distinct-few {X} same (x ∷ xs) = omega (arith, length-filter (λ (y : X). not (same x y)) (distinct same xs), count_by-le-length (λ (y : X). not (same x y)) (distinct same xs), distinct-few same xs)

module _ (program : AffineProgram) (parameters : List ℤ) where
  -- the credited vertices are at most as many as the points of the credited nests
  vertices-many : (credits : List CreditedNest) → length (flat_map (nest_vertices program parameters) credits) ≡ sum_by (λ (credit : CreditedNest). count credit.nest parameters) credits
  vertices-many [] = refl
  vertices-many (credit ∷ credits) =
      let instance : List ℤ → Instance = λ values. record { statement = credit.statement; values = values } in
      omega (
        arith,
        length-append (nest_vertices program parameters credit) (flat_map (nest_vertices program parameters) credits),
        length-map (instances_in credit.statement credit.nest parameters) (place_of program parameters),
        length-map (points credit.nest parameters) instance,
        sum_by-cons (λ (c : CreditedNest). count c.nest parameters) credit credits,
        vertices-many credits,
      )

  pub credits-few : (credits : List CreditedNest) → length (credited_vertices program credits parameters) ≤ sum_by (λ (credit : CreditedNest). count credit.nest parameters) credits
  credits-few credits = omega (arith, distinct-few nat_eq (flat_map (nest_vertices program parameters) credits), vertices-many credits)

  module _ (term : PartitionTerm) where
    abbrev partition : ReusePartition
    partition = reuse_partition program term parameters

    points-many : length partition.points ≡ count term.nest parameters
    points-many =
        let instance : List ℤ → Instance = λ values. record { statement = term.statement; values = values } in
        length-map (instances_in term.statement term.nest parameters) (place_of program parameters) ∙ length-map (points term.nest parameters) instance

    words-are : (families : List FamilyForms) → flat_map (λ (family : ReuseFamily). family.words) (map (reuse_family program term parameters) families) ≡ flat_map (footprint_in program term parameters) families
    words-are [] = refl
    words-are (family ∷ families) = ap (λ (l : List ℕ). footprint_in program term parameters family ++ l) (words-are families)

    weight-is : total_weight partition ≡ weight_of term
    weight-is = summed (λ (family : ReuseFamily). family.weight) (reuse_family program term parameters) term.families

    product-is : (families : List FamilyForms) → product_by (λ (f : ReuseFamily). f.weight ^ f.weight) (map (reuse_family program term parameters) families)
        ≡ product_by (λ (family : FamilyForms). family.weight ^ family.weight) families
    product-is [] = refl
    product-is (family ∷ families) = ap (λ (n : ℕ). family.weight ^ family.weight * n) (product-is families)

    -- the premises of the laws of partitions
    greatest-each : (s u : ℕ) → IsGreatestOf Each term s u → IsGreatestEach term.q (s + stretch_of term s) partition u
    greatest-each s u greatest = subst (λ (w : ℕ). IsGreatest term.q 1 (1 * (s + stretch_of term s) ^ w) u) (sym weight-is) greatest

    greatest-sum : (s u : ℕ) → IsGreatestOf Sum term s u → IsGreatestSum term.q (s + stretch_of term s) partition u
    greatest-sum s u greatest =
        let k : ℕ = s + stretch_of term s in
        subst (λ (p : ℕ). IsGreatest term.q (total_weight partition ^ total_weight partition) (p * k ^ total_weight partition) u) (sym (product-is term.families))
        (subst (λ (w : ℕ). IsGreatest term.q (w ^ w) (product_by (λ (family : FamilyForms). family.weight ^ family.weight) term.families * k ^ w) u) (sym weight-is) greatest)

    families-apart : AreApartFor Sum program term parameters → AreApart partition
    families-apart apart = subst ArePairwiseDisjoint (sym (mapped-twice (λ (family : ReuseFamily). family.words) (reuse_family program term parameters) term.families)) apart

    -- what a partition costs is what the term does
    costs : (s u n : ℕ) (moves : List Move)
        → stretch_of term s * ((n - 1) / u) ≤ loads_of (words_of partition) moves + computations_of partition.credited moves
        → stretch_of term s * ((n - 1) / u) ≤ loads_of (term_footprint program term parameters) moves + computations_of partition.credited moves
    costs s u n moves h =
        subst (λ (l : List ℕ). stretch_of term s * ((n - 1) / u) ≤ loads_of l moves + computations_of partition.credited moves) (words-are term.families) h

    -- where no vertex is computed again, the credited vertices are computed at most as often as there are credited points
    credited-few : DifferentComputationsAreFew → (moves : List Move) → IsDistinct nat_eq (computed_vertices moves) → computations_of partition.credited moves ≤ credited_count term parameters
    credited-few different moves distinct = omega (arith, different partition.credited moves distinct, credits-few (credited_nests term))

-- ---- the laws

pub terms-loaded-in-runs : RunsAreLoadedEach → RunsAreLoadedSum → SoundTermsAreLoadedInRuns
terms-loaded-in-runs each sum program term parameters s u n red moves formed admitted sound apart greatest run few =
    costs program parameters term s u n moves (by term.shape apart greatest) where
      by : (shape : Shape) → AreApartFor shape program term parameters → IsGreatestOf shape term s u
          → stretch_of term s * ((n - 1) / u) ≤ loads_of (words_of (reuse_partition program term parameters)) moves + computations_of (reuse_partition program term parameters).credited moves
      by Each apart greatest =
          each (computation_graph program parameters) term.q s (stretch_of term s) u n (reuse_partition program term parameters) red moves
          (sound-terms-are-sound program term parameters formed admitted sound).0 (greatest-each program parameters term s u greatest) run few
      by Sum apart greatest =
          sum (computation_graph program parameters) term.q s (stretch_of term s) u n (reuse_partition program term parameters) red moves
          (sound-terms-are-sound program term parameters formed admitted sound).0 (families-apart program parameters term apart) (greatest-sum program parameters term s u greatest) run few

pub terms-loaded : SoundTermsAreLoadedInRuns → DifferentComputationsAreFew → CompletePebblingsAreRuns → SoundTermsAreLoaded
terms-loaded loaded different runs program term parameters s u moves formed admitted sound apart greatest game =
    let graph = computation_graph program parameters in
    let are = (sound-terms-are-sound program term parameters formed admitted sound).1 in
    let run = runs graph s moves game in
    omega (
      arith,
      loaded program term parameters s u (count term.nest parameters) (first_board graph).red moves formed admitted sound apart greatest run.0
          (omega (arith, points-many program parameters term, all-left (stands_in (computed_vertices moves)) (counted_points program term parameters) (λ v m. run.2 v (are.there v (member-stands (counted_points program term parameters) v m))))),
      credited-few program parameters term different moves run.1,
    )

pub terms-split : SoundTermsAreLoadedInRuns → DifferentComputationsAreFew → SoundTermsSplit
terms-split loaded different program term formed sound apart = record {
  distinct = λ values admitted. (sound-terms-are-sound program term values formed admitted sound).0.cover.distinct;
  shares = record {
    instances = λ values v admitted stands. (sound-terms-are-sound program term values formed admitted sound).1.there v stands;
    many = λ values admitted. points-many program values term;
    loaded = λ values s n red moves admitted run distinct few.
        omega (
          arith,
          loaded program term values s (points_of (stretch_numbers term) s) n red moves formed admitted sound (apart values admitted) (greatest-of term s sound.positive) run few,
          credited-few program values term different moves distinct,
        );
  };
}

pub stretches-of-terms : StretchesHoldLabelsEach → StretchesHoldLabelsSum → StretchesHoldPointsEach → StretchesHoldPointsSum → StretchesOfTermsAreSmall
stretches-of-terms labels_each labels_sum points_each points_sum program term parameters s red stretch formed admitted sound apart run few =
    by term.shape apart (greatest-of term s sound.positive) where
      u : ℕ
      u = points_of (stretch_numbers term) s

      by : (shape : Shape) → AreApartFor shape program term parameters → IsGreatestOf shape term s u
          → AreLabelsFew shape (reuse_partition program term parameters) stretch (s + stretch_of term s) × (length (computed_among (counted_points program term parameters) stretch) ≤ u)
      by Each apart greatest =
          let graph = computation_graph program parameters in
          let both = sound-terms-are-sound program term parameters formed admitted sound in (
            labels_each graph term.q s (stretch_of term s) (reuse_partition program term parameters) red stretch both.0 run few,
            points_each graph term.q s (stretch_of term s) u (reuse_partition program term parameters) red stretch both.0 (greatest-each program parameters term s u greatest) run few,
          )
      by Sum apart greatest =
          let graph = computation_graph program parameters in
          let both = sound-terms-are-sound program term parameters formed admitted sound in
          let disjoint = families-apart program parameters term apart in (
            labels_sum graph term.q s (stretch_of term s) (reuse_partition program term parameters) red stretch both.0 disjoint run few,
            points_sum graph term.q s (stretch_of term s) u (reuse_partition program term parameters) red stretch both.0 disjoint (greatest-sum program parameters term s u greatest) run few,
          )
