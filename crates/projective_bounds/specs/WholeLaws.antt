-- What the terms of whole domains claim holds.
use Rattle.std.specs.Prelude.{ℕ, ◌≤◌, List, sum}
use Rattle.affine_program.specs.Domain.{depth_of}
use Rattle.affine_program.specs.Parts.{ProgramParts, IsProgram, meaning}
use Rattle.claims.specs.Claims.{AllHold}
use Rattle.claims.specs.declared.place.Step.{Step}
use Rattle.cover_lp.specs.Cover.{IsPair}
use Rattle.dep_quast.specs.Tree.{SelectionTree}
use Rattle.k_partition.specs.PartitionClaims.{partition_claims}
use Rattle.k_partition.specs.PartitionFits.{PartitionFits}
use Rattle.k_partition.specs.declared.term.Partition.{Partition}
use Rattle.k_partition.specs.Term.{PartitionTerm}
use Rattle.k_partition.specs.View.{partition_of}
use Rattle.iolb_check.specs.Limits.{IsSmallPartition}
use Rattle.iolb_check.specs.PartitionFit.{partition_fit}
use Rattle.projective.specs.Projective.{IsProjective, projection_sets}
use Rattle.projective_bounds.specs.Trees.{HaveKeepingTrees}
use Rattle.projective_bounds.specs.Whole.{IsWholeTerm}
use Rattle.iolb_model.specs.declared.limits.TheConstants.{WEIGHT, WEIGHTS}

-- What is asked of a projective program, its source trees, and a cover of its sets by weights, so many times, for its term to be
-- shown: each tree keeps the loops that stand in its reference, and some packing has the cover's total.
pub record CanBeShown (parts : ProgramParts) (rows : List (List SelectionTree)) (q : ℕ) (weights : List ℕ) : Type 0 where
  pub program : IsProgram parts
  pub projective : IsProjective (meaning parts)
  pub trees : HaveKeepingTrees (meaning parts) rows
  pub some : 1 ≤ q
  pub few : q ≤ WEIGHT
  pub light : sum weights ≤ WEIGHTS
  pub packing : List ℕ
  pub pair : IsPair (projection_sets (meaning parts)) (depth_of (meaning parts) 0) q weights packing

-- Then all that it claims holds wherever it stands, and it fits.
abbrev pub WholeTermsHold : Type 0
WholeTermsHold = (parts : ProgramParts) (trees : List (List SelectionTree)) (q : ℕ) (weights : List ℕ) (term : PartitionTerm) (place : List Step)
    → CanBeShown parts trees q weights → IsWholeTerm (meaning parts) trees q weights term → AllHold (partition_claims (meaning parts) trees place term)

abbrev pub WholeTermsFit : Type 0
WholeTermsFit = (parts : ProgramParts) (trees : List (List SelectionTree)) (q : ℕ) (weights : List ℕ) (term : PartitionTerm)
    → CanBeShown parts trees q weights → IsWholeTerm (meaning parts) trees q weights term → PartitionFits (meaning parts) trees term

-- What a certificate asks of it holds too, wherever it stands (condition 1).
abbrev pub WholeTermsAreAsAsked : Type 0
WholeTermsAreAsAsked = (parts : ProgramParts) (trees : List (List SelectionTree)) (q : ℕ) (weights : List ℕ) (term : PartitionTerm) (place : List Step)
    → CanBeShown parts trees q weights → IsWholeTerm (meaning parts) trees q weights term → AllHold (partition_fit (meaning parts) trees place term)

-- And it is within the limits of certificates.
abbrev pub WholeTermsAreSmall : Type 0
WholeTermsAreSmall = (parts : ProgramParts) (trees : List (List SelectionTree)) (q : ℕ) (weights : List ℕ) (partition : Partition)
    → CanBeShown parts trees q weights → IsWholeTerm (meaning parts) trees q weights (partition_of partition) → IsSmallPartition partition
