-- Certificates of projective programs. (The exponents are those of Dinh and Demmel 2020; the partition argument is that of Olivry
-- et al. 2020, after Hong and Kung 1981.)
use Rattle.std.specs.Prelude.{◌≡◌, ◌≤◌, ℕ, List, [], ◌∷◌, map, sum}
use Rattle.iolb_model.specs.Program.{AffineProgram}
use Rattle.iolb_model.specs.declared.limits.TheConstants.{WEIGHT, WEIGHTS}
use Rattle.affine_program.specs.Domain.{depth_of}
use Rattle.claims.specs.Claims.{AllHold}
use Rattle.cover_lp.specs.Cover.{IsLeastPair, IsPairInReach}
use Rattle.dep_quast.specs.Tree.{SelectionTree}
use Rattle.reuse_paths.specs.Families.{FamilyForms}
use Rattle.dep_quast.specs.Quasts.{trees_of}
use Rattle.k_partition.specs.declared.term.Partition.{Partition}
use Rattle.k_partition.specs.Term.{PartitionTerm}
use Rattle.k_partition.specs.View.{partition_of}
use Rattle.wavefront.specs.declared.cold.Cold.{Cold}
use Rattle.iolb_check.specs.declared.term.Branch.{Branch}
use Rattle.iolb_check.specs.declared.term.Term.TheVariants as terms
use Rattle.iolb_check.specs.Claims.{claim_of_certificate}
use Rattle.iolb_check.specs.Conditions.{conditions}
use Rattle.iolb_check.specs.Limits.{CertificateParts}
use Rattle.projective.specs.Exponent.{HasLeastExponent}
use Rattle.projective.specs.Projective.{IsProjective, projection_sets}
use Rattle.projective.specs.SourceTrees.{AreSourceTrees}
use Rattle.projective_bounds.specs.Colds.{AreArrayColds}
use Rattle.projective_bounds.specs.Whole.{IsWholeTerm}

-- a least cover of a program's loops by the sets of its arrays, with a packing of the same total, which is within reach
pub record IsCoverInReach (program : AffineProgram) (q : ℕ) (weights packing : List ℕ) : Type 0 where
  pub least : IsLeastPair (projection_sets program) (depth_of program 0) q weights packing
  pub few : q ≤ WEIGHT
  pub light : sum weights ≤ WEIGHTS

-- A program is projective, and some cover of its loops, with a packing of the same total, is within reach. (So is a least one then:
-- `CoversInReachHaveLeast`.)
pub record HasCoverInReach (program : AffineProgram) : Type 0 where
  pub projective : IsProjective program
  pub q : ℕ
  pub weights : List ℕ
  pub packing : List ℕ
  pub pair : IsPairInReach (projection_sets program) (depth_of program 0) q weights packing

-- the branch of the whole domain's term alone
pub record IsWholeBranch (program : AffineProgram) (trees : List (List SelectionTree)) (q : ℕ) (weights : List ℕ) (branch : Branch) : Type 0 where
  pub term : Partition
  pub one : branch.terms.items ≡ terms.Partition term ∷ []
  pub whole : IsWholeTerm program trees q weights (partition_of term)
  pub alone : branch.disjoint.items ≡ []

-- the branch of the arrays' cold terms
pub record IsColdBranch (program : AffineProgram) (branch : Branch) : Type 0 where
  pub colds : List Cold
  pub all : branch.terms.items ≡ map terms.Cold colds
  pub arrays : AreArrayColds program colds
  pub alone : branch.disjoint.items ≡ []

-- The certificate of a projective program: its trees are the program's source trees, its first branch is the term of the whole
-- domain for a least cover, its second has the cold terms of the arrays that are read, and it meets all conditions.
pub record IsCertified (program : AffineProgram) (certificate : CertificateParts) : Type 0 where
  pub q : ℕ
  pub weights : List ℕ
  pub packing : List ℕ
  pub cover : IsCoverInReach program q weights packing
  pub trees : AreSourceTrees program (trees_of certificate.quasts)
  pub first : Branch
  pub second : Branch
  pub two : certificate.branches ≡ first ∷ second ∷ []
  pub whole : IsWholeBranch program (trees_of certificate.quasts) q weights first
  pub colds : IsColdBranch program second
  pub meets : AllHold (conditions program (claim_of_certificate certificate))

-- the weights of a term's families
abbrev pub family_weights : PartitionTerm → List ℕ
family_weights term = map (λ (family : FamilyForms). family.weight) term.families

-- a term has the least exponent: its weights' total over its q is the least that any rational cover of the loops has
abbrev pub IsOfLeastExponent : AffineProgram → PartitionTerm → Type 0
IsOfLeastExponent program term = HasLeastExponent (projection_sets program) (depth_of program 0) term.q (family_weights term)
