-- A sound joint term whose groups are apart is a sound joint partition of the computation graph.
use Rattle.std.proofs.Common.{◌≡◌, refl, ℕ, cond, List, [], ◌∷◌, map, sum_by, arith}
use Rattle.std.specs.Prelude.{◌==◌}
use Rattle.std.proofs.lemmas.List.Sums.{sum_by-cons}
use Rattle.std.specs.List.{AllByRecursion}
use Rattle.std.proofs.Math.IntN.{ℤ}
use Rattle.base_laws.proofs.Lists.{All-map}
use Rattle.execution_laws.proofs.Members.{Member}
use Rattle.execution_laws.proofs.Ordered.{All-from, All-member}
use Rattle.iolb_model.specs.Program.{AffineProgram}
use Rattle.iolb_model.specs.Game.{stands_in}
use Rattle.iolb_model.specs.Graph.{computation_graph}
use Rattle.k_partition.proofs.TermCovers.{summed}
use Rattle.stretch_laws.specs.Reuse.{FixesCoordinates, WalkFamily, IsSoundFamily as IsSoundWalks, weight_at}
use Rattle.joint_partition.specs.JointWords.{IsSoundJointFamily, SoundJointTermsAreSound, dimensions_of, families_in, group_numbers, joint_partition, walk_family}
use Rattle.joint_partition.specs.Term.{JointFamily, JointTerm}
use Rattle.joint_partition.proofs.GroupSums.{term-sum}
use Rattle.joint_partition.proofs.Images.{images-distinct, images-long}
use Rattle.joint_partition.proofs.JointReuse.{family-fixes, family-reuses}
use Rattle.joint_partition.proofs.PartWalks.{left-member}

module _ (program : AffineProgram) (term : JointTerm) (parameters : List ℤ) where
  abbrev walk_of : JointFamily → WalkFamily
  walk_of family = walk_family program term parameters family

  -- what holds of the walks of each family holds group by group
  each-group : (P : WalkFamily → Type 0) → ((family : JointFamily) → Member family term.families → P (walk_of family))
      → AllByRecursion (AllByRecursion P) (joint_partition program term parameters).groups
  each-group P h =
      All-map (AllByRecursion P) (λ (number : ℕ). map walk_of (families_in term number)) (group_numbers term)
      (All-from (λ (number : ℕ). AllByRecursion P (map walk_of (families_in term number))) (group_numbers term)
      (λ number m. All-map P walk_of (families_in term number)
      (All-from (λ (family : JointFamily). P (walk_of family)) (families_in term number)
      (λ family n. h family (left-member (λ (f : JointFamily). f.group == number) term.families family n).0))))

  abbrev in_set : ℕ → WalkFamily → ℕ
  in_set i family = cond (family.has i) family.weight 0

  -- and what the families have together is what the groups have
  weights-are : (i : ℕ) (numbers : List ℕ) → sum_by (weight_at i) (map (λ (number : ℕ). map walk_of (families_in term number)) numbers)
      ≡ sum_by (λ (number : ℕ). sum_by (λ (family : JointFamily). cond (stands_in family.set i) family.weight 0) (families_in term number)) numbers
  weights-are i [] = refl
  weights-are i (number ∷ numbers) =
      omega (
        arith,
        sum_by-cons (weight_at i) (map walk_of (families_in term number)) (map (λ (n : ℕ). map walk_of (families_in term n)) numbers),
        sum_by-cons (λ (n : ℕ). sum_by (λ (family : JointFamily). cond (stands_in family.set i) family.weight 0) (families_in term n)) number numbers,
        summed (in_set i) walk_of (families_in term number),
        weights-are i numbers,
      )

pub joint-terms-are-sound : SoundJointTermsAreSound
joint-terms-are-sound program term parameters formed admitted sound apart = record {
  sound = each-group program term parameters (IsSoundWalks (computation_graph program parameters) (joint_partition program term parameters))
      (λ family m. family-reuses program term parameters formed admitted sound family (of family m));
  cover = record {
    positive = sound.positive;
    long = images-long program parameters admitted (dimensions_of term) term.parts sound.parts;
    distinct = images-distinct program parameters admitted (dimensions_of term) term sound.parts sound.apart;
    fixed = each-group program term parameters (FixesCoordinates (joint_partition program term parameters))
        (λ family m. family-fixes program term parameters formed admitted sound family (of family m));
    covered = λ i below.
        omega (
          arith,
          sound.covered i below,
          weights-are program term parameters i (group_numbers term),
          term-sum (λ (family : JointFamily). cond (stands_in family.set i) family.weight 0) term,
        );
  };
  apart = apart;
} where
  of : (family : JointFamily) → Member family term.families → IsSoundJointFamily program term family
  of family m = All-member (IsSoundJointFamily program term) term.families family sound.families m
