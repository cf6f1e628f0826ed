-- The conditions of certificates, in the order in which they are tested.
use Rattle.std.specs.Prelude.{◌≡◌, ℕ, List, [], ◌∷◌, ◌++◌, length, map, codes}
use Rattle.iolb_model.specs.Program.{AffineProgram}
use Rattle.claims.specs.Claims.{Claim, AllHold, numbered}
use Rattle.claims.specs.declared.place.Step.{Step}
use Rattle.claims.specs.declared.place.Step.TheVariants.{Key, Index}
use Rattle.claims.specs.Shown.{pointless_claims}
use Rattle.dep_quast.specs.Tree.{SelectionTree}
use Rattle.domain_count.specs.Count.{IsCount, IsSumFrom}
use Rattle.joint_partition.specs.Claims.{count_of, joint_claims}
use Rattle.joint_partition.specs.JointLoads.{HasJointNumbers}
use Rattle.joint_partition.specs.JointPieces.{joint_pieces}
use Rattle.joint_partition.specs.Term.{JointTerm}
use Rattle.k_partition.specs.declared.term.PartitionBound.{PartitionBound}
use Rattle.k_partition.specs.Numbers.{HasNumbers, numbers_of}
use Rattle.k_partition.specs.PartitionClaims.{IsCreditsTotal, no_points, partition_claims}
use Rattle.k_partition.specs.PartitionPieces.{partition_pieces}
use Rattle.k_partition.specs.Term.{PartitionTerm}
use Rattle.footprint_pieces.specs.DisjointClaims.{pairwise_systems}
use Rattle.footprint_pieces.specs.Pieces.{FootprintPiece}
use Rattle.dep_quast.specs.Quasts.{tree_for}
use Rattle.dep_quast.specs.Trees.{rows_claims}
use Rattle.wavefront.specs.ColdClaims.{cold_claims}
use Rattle.wavefront.specs.ColdPieces.{cold_pieces}
use Rattle.wavefront.specs.FrontClaims.{front_claims}
use Rattle.wavefront.specs.FrontPieces.{front_pieces}
use Rattle.wavefront.specs.FrontTerm.{outer_nest}
use Rattle.iolb_check.specs.Claims.{TermClaim, cold, partition, front, joint, cold_term, front_term, BranchClaim, CertificateClaim}
use Rattle.iolb_check.specs.TermFit.{certificate_fit}
use Rattle.iolb_check.specs.declared.bound.Value.{Value}
use Rattle.iolb_check.specs.declared.bound.Value.TheVariants as values

-- ---- claims

-- What a term at a place claims. A cold term claims it over the source tree of its read (conditions 2, and 8 to 12), each other term
-- over all source trees: a partition term (2, 8 to 10, and 13 to 18), a wavefront term (2, 8 to 10, 12, and 19 to 22), and a joint
-- term (2, 8 to 10, 12, 14, 15, 17, 18, and 25).
abbrev pub term_claims : AffineProgram → List (List SelectionTree) → List Step → TermClaim → List Claim
term_claims program trees place (cold claim sums) =
    cold_claims program (place ++ Key (codes "cold") ∷ []) (tree_for trees (cold_term claim sums).reader) (cold_term claim sums)
term_claims program trees place (partition term) = partition_claims program trees (place ++ Key (codes "partition") ∷ []) term
term_claims program trees place (front claim sums outer_sums) = front_claims program (place ++ Key (codes "wavefront") ∷ []) trees (front_term claim sums outer_sums)
term_claims program trees place (joint term) = joint_claims program trees (place ++ Key (codes "joint") ∷ []) term

-- what the terms in a list at a place claim, each at its index
abbrev pub term_claims_at : AffineProgram → List (List SelectionTree) → List Step → ℕ → TermClaim → List Claim
term_claims_at program trees list index term = term_claims program trees (list ++ Index index ∷ []) term

abbrev pub terms_claims : AffineProgram → List (List SelectionTree) → List Step → List TermClaim → List Claim
terms_claims program trees list terms = numbered (term_claims_at program trees list) 0 terms

-- the place of a branch's terms
abbrev pub terms_place : ℕ → List Step
terms_place branch = Key (codes "branches") ∷ Index branch ∷ Key (codes "terms") ∷ []

-- the pieces of a term's footprint, and those of each of a branch's terms
abbrev pub term_pieces : AffineProgram → List (List SelectionTree) → TermClaim → List FootprintPiece
term_pieces program trees (cold claim sums) = cold_pieces program (tree_for trees (cold_term claim sums).reader) (cold_term claim sums)
term_pieces program trees (partition term) = partition_pieces program trees term
term_pieces program trees (front claim sums outer_sums) = front_pieces program (front_term claim sums outer_sums)
term_pieces program trees (joint term) = joint_pieces program trees term

abbrev pub branch_pieces : AffineProgram → List (List SelectionTree) → List TermClaim → List (List FootprintPiece)
branch_pieces program trees terms = map (term_pieces program trees) terms

-- the place of the multipliers which show that a branch's terms have no vertex in common
abbrev pub disjoint_place : ℕ → List Step
disjoint_place branch = Key (codes "branches") ∷ Index branch ∷ Key (codes "disjoint") ∷ []

-- that pieces of two terms, each term with each later one, have no vertex in common (conditions 2 and 23)
abbrev pub disjoint_claims : AffineProgram → List (List SelectionTree) → ℕ → BranchClaim → List Claim
disjoint_claims program trees number branch =
    pointless_claims 23 (disjoint_place number) 0 (pairwise_systems program (branch_pieces program trees branch.terms)) branch.disjoint

-- what a branch claims: its terms, and then that they have no vertex in common
abbrev pub branch_claims : AffineProgram → List (List SelectionTree) → ℕ → BranchClaim → List Claim
branch_claims program trees number branch = terms_claims program trees (terms_place number) branch.terms ++ disjoint_claims program trees number branch

-- All conditions: that the certificate fits the program (1), what its source trees claim (2 to 7), and what its branches
-- claim (2, 8 to 23, and 25).
abbrev pub conditions : AffineProgram → CertificateClaim → List Claim
conditions program certificate =
    certificate_fit program certificate ++ rows_claims program 0 certificate.trees ++ numbered (branch_claims program certificate.trees) 0 certificate.branches

-- ---- values

-- A partition term's value has the count that its sums give, the sum of its credits' counts, and the numbers of its stretches.
pub record IsPartitionValue (program : AffineProgram) (term : PartitionTerm) (bound : PartitionBound) : Type 0 where
  pub count : IsCount program term.nest term.count bound.count
  pub credits : IsCreditsTotal (length program.parameters) no_points term.credits bound.credits
  pub numbers : HasNumbers term bound

-- A joint term's value has the sum of the counts of its parts, that of its credits' counts, and the numbers of its stretches.
pub record IsJointValue (program : AffineProgram) (term : JointTerm) (bound : PartitionBound) : Type 0 where
  pub count : IsCreditsTotal (length program.parameters) no_points (map count_of term.parts) bound.count
  pub credits : IsCreditsTotal (length program.parameters) no_points term.credits bound.credits
  pub numbers : HasJointNumbers term (numbers_of bound)

-- this is a term's value: the count that its sums give, and for a wavefront term also that of its outer variables
abbrev pub IsValueOf : AffineProgram → TermClaim → Value → Type 0
IsValueOf program (cold claim sums) (values.Cold count) = IsCount program claim.nest (cold_term claim sums).count count
IsValueOf program (cold claim sums) (values.Partition bound) = ⊥
IsValueOf program (cold claim sums) (values.Wavefront pairs outer) = ⊥
IsValueOf program (cold claim sums) (values.Joint bound) = ⊥
IsValueOf program (partition term) (values.Cold count) = ⊥
IsValueOf program (partition term) (values.Partition bound) = IsPartitionValue program term bound
IsValueOf program (partition term) (values.Wavefront pairs outer) = ⊥
IsValueOf program (partition term) (values.Joint bound) = ⊥
IsValueOf program (front claim sums outer_sums) (values.Cold count) = ⊥
IsValueOf program (front claim sums outer_sums) (values.Partition bound) = ⊥
IsValueOf program (front claim sums outer_sums) (values.Wavefront pairs outer) =
    IsCount program claim.nest (front_term claim sums outer_sums).count pairs
    × IsSumFrom (length program.parameters) (outer_nest (front_term claim sums outer_sums)) outer_sums outer
IsValueOf program (front claim sums outer_sums) (values.Joint bound) = ⊥
IsValueOf program (joint term) (values.Cold count) = ⊥
IsValueOf program (joint term) (values.Partition bound) = ⊥
IsValueOf program (joint term) (values.Wavefront pairs outer) = ⊥
IsValueOf program (joint term) (values.Joint bound) = IsJointValue program term bound

-- these are the values of terms, one of each
abbrev pub AreValuesOf : AffineProgram → List TermClaim → List Value → Type 0
AreValuesOf program [] values = values ≡ []
AreValuesOf program (term ∷ terms) [] = ⊥
AreValuesOf program (term ∷ terms) (value ∷ values) = IsValueOf program term value × AreValuesOf program terms values

-- these are the values of the terms of branches
abbrev pub AreBranchValues : AffineProgram → List BranchClaim → List (List Value) → Type 0
AreBranchValues program [] values = values ≡ []
AreBranchValues program (branch ∷ branches) [] = ⊥
AreBranchValues program (branch ∷ branches) (values ∷ others) = AreValuesOf program branch.terms values × AreBranchValues program branches others

-- A certificate meets all conditions for a program, and these are the values of its terms.
pub record MeetsConditions (program : AffineProgram) (certificate : CertificateClaim) (values : List (List Value)) : Type 0 where
  pub accepted : AllHold (conditions program certificate)
  pub valued : AreBranchValues program certificate.branches values
