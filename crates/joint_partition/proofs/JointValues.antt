-- Joint terms whose claims hold cost the values of their bounds.
use Rattle.std.proofs.Common.{◌≡◌, sym, ◌∙◌, subst, ℕ, ◌+◌, ◌-◌, ◌*◌, ◌/◌, ◌<◌, ◌≤◌, cond, List, length, map, arith}
use Rattle.std.specs.Prelude.{filter}
use Rattle.std.proofs.Math.IntN.{ℤ}
use Rattle.std.proofs.lemmas.List.{length-map}
use Rattle.std.proofs.lemmas.List.Sums.{length-filter}
use Rattle.execution_laws.proofs.Members.{Member, Member-flat_map}
use Rattle.execution_laws.proofs.Ordered.{All-member, Member-flat_map_from, Member-map_from}
use Rattle.iolb_model.specs.declared.game.Move.{Move}
use Rattle.iolb_model.specs.Program.{AffineProgram}
use Rattle.iolb_model.specs.Bound.{IsAdmitted, StretchNumbers, count_value, events_of, points_of}
use Rattle.iolb_model.specs.Execution.{execution}
use Rattle.iolb_model.specs.Game.{loads_of, stands_in}
use Rattle.dep_quast.specs.Tree.{SelectionTree}
use Rattle.domain_count.proofs.Counted.{counted-value}
use Rattle.footprint_pieces.specs.Pieces.{AreCovered, IsInPieces}
use Rattle.k_partition.specs.ReusedWords.{credited_vertices}
use Rattle.k_partition.proofs.PartitionBounds.{covered-vertices}
use Rattle.k_partition.proofs.TermCovers.{summed}
use Rattle.k_partition.proofs.TermLoads.{credits-few}
use Rattle.pebble_game.proofs.Marks.{standing-member}
use Rattle.poly_tree.specs.Poly.{Quotient}
use Rattle.poly_tree.specs.Printed.{TermsHaveTheValue, polynomial_of}
use Rattle.reuse_paths.specs.FamilyPieces.{WalkPiecesCover}
use Rattle.stretch_laws.specs.Laws.{DifferentComputationsAreFew, points_computed}
use Rattle.stretch_laws.specs.Reuse.{CountedPoint, WalkFamily, group_words, words_in}
use Rattle.stretch_laws.specs.Runs.{computed_among, computed_vertices}
use Rattle.joint_partition.specs.Claims.{family_pieces}
use Rattle.joint_partition.specs.JointCosts.{JointClaimsCost}
use Rattle.joint_partition.specs.JointFits.{JointFamiliesAreSound, JointGroupsAreApart, PartsAreSound}
use Rattle.joint_partition.specs.JointLoads.{JointTermsAreLoadedInRuns, credited_count, image_count, joint_footprint}
use Rattle.joint_partition.specs.JointPieces.{joint_pieces}
use Rattle.joint_partition.specs.JointValues.{IsJointBound, JointPiecesCover, JointTermsCostTheirValue, JointTermsShareAmongRuns, image_vertices}
use Rattle.joint_partition.specs.JointWords.{group_numbers, joint_partition, joint_points, walk_family}
use Rattle.joint_partition.specs.Term.{JointFamily, JointTerm, credited_nests}
use Rattle.joint_partition.proofs.ClaimsCost.{holds-families, sound}
use Rattle.joint_partition.proofs.GroupsApart.{among-in, group_at, in-family, words-inside}
use Rattle.joint_partition.proofs.JointLoads.{points-many, points-there}

-- ---- the pieces of the families cover the footprint

module _ (program : AffineProgram) (trees : List (List SelectionTree)) (term : JointTerm) where
  joint-covered : ((parameters : List ℤ) → IsAdmitted program parameters → (family : JointFamily) → Member family term.families → (vertex : ℕ)
      → Member vertex (words_in (walk_family program term parameters family)) → IsInPieces program parameters (family_pieces program trees term family) vertex)
      → AreCovered program (joint_footprint program term) (joint_pieces program trees term)
  joint-covered inside parameters vertex admitted stands =
      let of_group = Member-flat_map_from group_words vertex (joint_partition program term parameters).groups (standing-member (joint_footprint program term parameters) vertex stands) in
      let number = Member-map_from (group_at program trees term parameters (inside parameters admitted)) of_group.0 (group_numbers term) of_group.1.0 in
      let own = in-family program trees term parameters (inside parameters admitted) number.0 vertex (subst (λ (group : List WalkFamily). Member vertex (group_words group)) number.1.1 of_group.1.1) in
      among-in program parameters (family_pieces program trees term own.0) (joint_pieces program trees term) vertex
      (λ piece m. Member-flat_map (family_pieces program trees term) own.0 term.families piece own.1.0 m) own.1.1.1

-- ---- values

-- a cost by counts is one by the values of their polynomials
less : (events points n m c d l : ℕ) → m ≡ n → d ≡ c → events * ((n - 1) / points) ≤ l + c → events * ((m - 1) / points) - d ≤ l
less events points n m c d l g h le = subst (λ (x : ℕ). events * ((x - 1) / points) - d ≤ l) (sym g) (within (events * ((n - 1) / points)) le) where
  within : (p : ℕ) → p ≤ l + c → p - d ≤ l
  within p most = omega (arith, h, most)

-- so many of the images' vertices are computed as images are
computed-same : (points : List CountedPoint) (moves : List Move)
    → length (computed_among (map (λ (point : CountedPoint). point.vertex) points) moves) ≡ length (filter (λ (point : CountedPoint). stands_in (computed_vertices moves) point.vertex) points)
computed-same points moves =
    length-filter (stands_in (computed_vertices moves)) (map (λ (point : CountedPoint). point.vertex) points)
    ∙ summed (λ (v : ℕ). cond (stands_in (computed_vertices moves) v) 1 0) (λ (point : CountedPoint). point.vertex) points
    ∙ sym (length-filter (λ (point : CountedPoint). stands_in (computed_vertices moves) point.vertex) points)

module _ (program : AffineProgram) (term : JointTerm) (count credits : Quotient) (numbers : StretchNumbers) (bound : IsJointBound program term count credits numbers) (value : TermsHaveTheValue)
    (values : List ℤ) (admitted : IsAdmitted program values) where
  count-is : count_value (polynomial_of count) values ≡ image_count term values
  count-is = counted-value count values (image_count term values) bound.legal value (bound.images values admitted)

  credits-are : count_value (polynomial_of credits) values ≡ credited_count term values
  credits-are = counted-value credits values (credited_count term values) bound.legal_credits value (bound.credited values admitted)

-- ---- the laws

pub joint-pieces-cover : PartsAreSound → JointFamiliesAreSound → JointGroupsAreApart → WalkPiecesCover → JointPiecesCover
joint-pieces-cover of_parts of_families of_groups cover program trees term place formed trees-fit trees-true fits holds =
    joint-covered program trees term
    (λ parameters admitted. words-inside cover program trees term place parameters formed trees-fit trees-true
    (sound of_parts of_families of_groups program trees term place formed trees-fit trees-true fits holds).parts admitted 0 term.families fits.groups.families
    (holds-families of_parts of_families of_groups program trees term place formed trees-fit trees-true fits holds))

pub joint-terms-cost-their-value : PartsAreSound → JointFamiliesAreSound → JointGroupsAreApart → WalkPiecesCover → TermsHaveTheValue → JointClaimsCost → JointTermsCostTheirValue
joint-terms-cost-their-value of_parts of_families of_groups cover value cost program trees term place count credits numbers formed trees-fit trees-true fits holds bound = record {
  vertices = λ values admitted. covered-vertices program values (joint_footprint program term) (joint_pieces program trees term) admitted
      (joint-pieces-cover of_parts of_families of_groups cover program trees term place formed trees-fit trees-true fits holds);
  loaded = λ values s moves admitted some game.
      less (events_of numbers s) (points_of numbers s) (image_count term values) (count_value (polynomial_of count) values) (credited_count term values) (count_value (polynomial_of credits) values)
      (loads_of (joint_footprint program term values) moves)
      (count-is program term count credits numbers bound value values admitted) (credits-are program term count credits numbers bound value values admitted)
      (cost program trees term place numbers values s moves formed trees-fit trees-true fits holds bound.has admitted game);
}

pub joint-terms-share-among-runs : TermsHaveTheValue → DifferentComputationsAreFew → JointTermsAreLoadedInRuns → JointTermsShareAmongRuns
joint-terms-share-among-runs value different loaded program term count credits numbers formed sound apart bound = record {
  instances = λ values v admitted stands.
      let point = Member-map_from (λ (p : CountedPoint). p.vertex) v (joint_points program term values) (standing-member (image_vertices program term values) v stands) in
      let below : point.0.vertex < length (execution program values) =
      All-member (λ (p : CountedPoint). p.vertex < length (execution program values)) (joint_points program term values) point.0
      (points-there program term values admitted term.parts sound.parts) point.1.0 in
      omega (arith, below, point.1.1);
  many = λ values admitted.
      length-map (joint_points program term values) (λ (p : CountedPoint). p.vertex) ∙ points-many program term values term.parts
      ∙ sym (count-is program term count credits numbers bound value values admitted);
  loaded = λ values s n red moves admitted run distinct few.
      let least : n ≤ length (points_computed (joint_partition program term values) moves) = omega (arith, few, computed-same (joint_points program term values) moves) in
      omega (
        arith,
        loaded program term numbers values s n red moves formed admitted sound (apart values admitted) bound.has run least,
        different (credited_vertices program (credited_nests term) values) moves distinct,
        credits-few program values (credited_nests term),
        credits-are program term count credits numbers bound value values admitted,
      );
}
