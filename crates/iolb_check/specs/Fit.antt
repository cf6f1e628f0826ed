-- Certificates that fit a program, and that their parts then do.
use Rattle.std.specs.Prelude.{◌≡◌, ◌≤◌, List, Some, length, map}
use Rattle.std.specs.List.{AllByRecursion}
use Rattle.affine_program.specs.Parts.{ProgramParts, meaning}
use Rattle.dep_quast.specs.Tree.{SelectionTree}
use Rattle.domain_count.specs.Claims.{FitsCount}
use Rattle.joint_partition.specs.declared.term.Joint.{Joint}
use Rattle.joint_partition.specs.FamiliesFit.{FitsJoint}
use Rattle.joint_partition.specs.JointNumbers.{FitsNumbers}
use Rattle.joint_partition.specs.JointPieces.{HasJointPieces}
use Rattle.joint_partition.specs.View.{joint_of}
use Rattle.k_partition.specs.declared.term.Partition.{Partition}
use Rattle.k_partition.specs.PartitionFits.{PartitionFits}
use Rattle.k_partition.specs.PartitionPieces.{HasPartitionPieces}
use Rattle.k_partition.specs.TermLoads.{weight_of}
use Rattle.k_partition.specs.View.{partition_of, FitsCredit, FitsMatrices, FitsPartition}
use Rattle.affine_form.specs.Matrix.{HasShape}
use Rattle.dep_quast.specs.Quasts.{tree_at, tree_for, trees_of}
use Rattle.footprint_pieces.specs.TargetPairs.{pairwise_targets}
use Rattle.dep_quast.specs.Trees.{RowsFit}
use Rattle.wavefront.specs.declared.cold.Cold.{Cold}
use Rattle.wavefront.specs.declared.front.Wavefront.{Wavefront}
use Rattle.wavefront.specs.ColdPieces.{LeavesAreFew}
use Rattle.wavefront.specs.FrontFits.{FrontFits, PartsFit as FrontPartsFit}
use Rattle.wavefront.specs.Loads.{ColdFits}
use Rattle.wavefront.specs.View.{term_of, front_of}
use Rattle.iolb_check.specs.declared.term.Term.{Term}
use Rattle.iolb_check.specs.declared.term.Term.TheVariants as terms
use Rattle.iolb_check.specs.declared.term.Branch.{Branch}
use Rattle.iolb_check.specs.Claims.{claim_of_term}
use Rattle.iolb_check.specs.Limits.{CertificateParts}
use Rattle.iolb_check.specs.PairFit.{term_targets}
use Rattle.iolb_model.specs.declared.limits.TheConstants.{WEIGHTS}

-- a cold term fits a program and the source trees: the tree of its read is there
pub record ColdTermFits (program : ProgramParts) (trees : List (List SelectionTree)) (cold : Cold) : Type 0 where
  pub there : tree_at trees cold.statement cold.read ≡ Some (tree_for trees (term_of cold).reader)
  pub fits : ColdFits (meaning program) (tree_for trees (term_of cold).reader) (term_of cold)
  pub count : FitsCount program cold.nest cold.sums

-- a wavefront term fits a program and the source trees
pub record FrontTermFits (program : ProgramParts) (trees : List (List SelectionTree)) (front : Wavefront) : Type 0 where
  pub fits : FrontFits (meaning program) trees (front_of front)
  pub count : FitsCount program front.nest front.sums
  pub outer_sums : length front.outer_sums.items ≡ front.outer

-- a partition term fits a program and the source trees; that its matrix has an entry for each row and column its type keeps
pub record PartitionTermFits (program : ProgramParts) (trees : List (List SelectionTree)) (partition : Partition) : Type 0 where
  pub fits : HasShape partition.matrix.rows partition.matrix.columns partition.matrix.cells → PartitionFits (meaning program) trees (partition_of partition)
  pub count : FitsCount program partition.nest partition.sums
  pub credits : AllByRecursion (FitsCredit program) partition.credits.items
  pub matrices : FitsMatrices partition
  pub light : weight_of (partition_of partition) ≤ WEIGHTS

-- a joint term fits a program and the source trees, and its numbers are few
pub record JointTermFits (program : ProgramParts) (trees : List (List SelectionTree)) (joint : Joint) : Type 0 where
  pub fits : FitsJoint program trees joint
  pub numbers : FitsNumbers (joint_of joint)
  pub positive : 1 ≤ joint.q

abbrev pub TermFits : ProgramParts → List (List SelectionTree) → Term → Type 0
TermFits program trees (terms.Cold cold) = ColdTermFits program trees cold
TermFits program trees (terms.Partition partition) = PartitionTermFits program trees partition
TermFits program trees (terms.Wavefront front) = FrontTermFits program trees front
TermFits program trees (terms.Joint joint) = JointTermFits program trees joint

-- a branch fits: each of its terms does, and there are multipliers for each pair of their pieces with one target
pub record BranchFits (program : ProgramParts) (trees : List (List SelectionTree)) (branch : Branch) : Type 0 where
  pub terms : AllByRecursion (TermFits program trees) branch.terms.items
  pub disjoint : length branch.disjoint.items ≡ length (pairwise_targets (map (term_targets (meaning program) trees) (map claim_of_term branch.terms.items)))

abbrev pub BranchesFit : ProgramParts → List (List SelectionTree) → List Branch → Type 0
BranchesFit program trees branches = AllByRecursion (BranchFits program trees) branches

-- a term that fits has pieces where the rows at each leaf are few
abbrev pub HasPieces : ProgramParts → List (List SelectionTree) → Term → Type 0
HasPieces program trees (terms.Cold cold) = ColdTermFits program trees cold × LeavesAreFew (meaning program) (tree_for trees (term_of cold).reader) (term_of cold)
HasPieces program trees (terms.Partition partition) = FitsPartition program trees partition × HasPartitionPieces (meaning program) trees (partition_of partition)
HasPieces program trees (terms.Wavefront front) = FrontPartsFit (meaning program) (front_of front)
HasPieces program trees (terms.Joint joint) = FitsJoint program trees joint × HasJointPieces (meaning program) trees (joint_of joint)

-- Where a certificate fits a program, so do its source trees and its terms.
pub record PartsFit (program : ProgramParts) (parts : CertificateParts) : Type 0 where
  pub trees : RowsFit (meaning program) 0 (trees_of parts.quasts)
  pub branches : BranchesFit program (trees_of parts.quasts) parts.branches
