-- What the parts of the code are.
use Rattle.std.specs.Prelude.{◌≡◌, ◌≤◌, ℕ, List, map, length}
use Rattle.std.specs.List.{AllByRecursion}
use Rattle.affine_form.specs.Matrix.{IntegerMatrix}
use Rattle.affine_program.specs.Parts.{ProgramParts, meaning}
use Rattle.dep_quast.specs.Tree.{SelectionTree}
use Rattle.domain_count.specs.Claims.{FitsCount}
use Rattle.reuse_paths.specs.declared.family.Credit.{Credit}
use Rattle.reuse_paths.specs.Families.{credit_of, family_of}
use Rattle.dep_quast.specs.Trees.{RowsFit, RowsAreTrue}
use Rattle.k_partition.specs.declared.term.Partition.{Partition}
use Rattle.k_partition.specs.PartitionFits.{PartitionFits}
use Rattle.k_partition.specs.Term.{CreditTerm, PartitionTerm}
use Rattle.k_partition.specs.TermLoads.{weight_of}
use Rattle.iolb_model.specs.declared.limits.TheConstants.{WEIGHTS}

-- a credited nest that the code holds, with what is claimed of its number of points
abbrev pub credit_term_of : Credit → CreditTerm
credit_term_of credit = record { nest = credit_of credit; count = credit.sums }

-- the partition term that the code holds
abbrev pub partition_of : Partition → PartitionTerm
partition_of partition = record {
  statement = partition.statement;
  nest = partition.nest;
  count = partition.sums;
  inside = partition.inside.items;
  matrix = partition.matrix;
  inverse = partition.inverse;
  q = partition.q;
  shape = partition.shape;
  a = partition.a;
  b = partition.b;
  credits = map credit_term_of partition.credits.items;
  families = map family_of partition.families.items;
  apart = partition.apart.items;
}

-- what is claimed of a credit's number of points fits
abbrev pub FitsCredit : ProgramParts → Credit → Type 0
FitsCredit program credit = FitsCount program credit.nest credit.sums

-- a matrix has so many rows and columns
pub record IsSquare (size : ℕ) (matrix : IntegerMatrix) : Type 0 where
  pub rows : matrix.rows ≡ size
  pub columns : 1 ≤ size → matrix.columns ≡ size

-- the matrix and its inverse have a row and a column for each variable of the nest
pub record FitsMatrices (partition : Partition) : Type 0 where
  pub matrix : IsSquare (length partition.nest) partition.matrix
  pub inverse : IsSquare (length partition.nest) partition.inverse

-- A partition term and the source trees fit the program, the trees are true, and the weights are few together.
pub record FitsPartition (program : ProgramParts) (trees : List (List SelectionTree)) (partition : Partition) : Type 0 where
  pub fits : PartitionFits (meaning program) trees (partition_of partition)
  pub trees_fit : RowsFit (meaning program) 0 trees
  pub trees_true : RowsAreTrue (meaning program) 0 trees
  pub count : FitsCount program partition.nest partition.sums
  pub credits : AllByRecursion (FitsCredit program) partition.credits.items
  pub matrices : FitsMatrices partition
  pub light : weight_of (partition_of partition) ≤ WEIGHTS
