-- What makes a partition term fit a program, and what follows from its claims.
use Rattle.std.specs.Prelude.{◌≡◌, ◌≤◌, ⊤, ℤ, List, length}
use Rattle.std.specs.List.{AllByRecursion}
use Rattle.iolb_model.specs.Program.{AffineProgram, IsWellFormed}
use Rattle.iolb_model.specs.Bound.{IsAdmitted}
use Rattle.claims.specs.Claims.{AllHold}
use Rattle.claims.specs.declared.place.Step.{Step}
use Rattle.affine_form.specs.Matrix.{HasShape}
use Rattle.affine_program.specs.Domain.{domain_size}
use Rattle.dep_quast.specs.Tree.{SelectionTree}
use Rattle.footprint_pieces.specs.DisjointClaims.{pairwise_systems}
use Rattle.reuse_paths.specs.FamilyFits.{CountedFits, FamilyFits}
use Rattle.footprint_pieces.specs.Pieces.{PieceFits}
use Rattle.dep_quast.specs.Trees.{RowsFit, RowsAreTrue}
use Rattle.k_partition.specs.PartitionClaims.{sound_claims, partition_claims, pieces_of_families}
use Rattle.k_partition.specs.declared.term.Shape.{Shape}
use Rattle.k_partition.specs.declared.term.Shape.TheVariants.{Each, Sum}
use Rattle.k_partition.specs.ReusedWords.{IsSoundTerm}
use Rattle.k_partition.specs.Term.{PartitionTerm, credited_nests}
use Rattle.k_partition.specs.TermLoads.{AreApartFor}

-- Of the second shape there are multipliers for each pair of pieces of two families with one target.
abbrev pub HasApart : Shape → AffineProgram → List (List SelectionTree) → PartitionTerm → Type 0
HasApart Each program trees term = ⊤
HasApart Sum program trees term = length (pairwise_systems program (pieces_of_families program trees term)) ≤ length term.apart

-- A partition term fits a program and source trees: what its numbers name is there, its matrices have a row and a column for
-- each loop, its families fit, and each list has the length called for.
pub record PartitionFits (program : AffineProgram) (trees : List (List SelectionTree)) (term : PartitionTerm) : Type 0 where
  pub counted : CountedFits program term.statement term.nest term.matrix
  pub inside : length term.inside ≡ domain_size program term.statement
  pub matrix : HasShape term.matrix.rows term.matrix.columns term.matrix.cells
  pub positive : 1 ≤ term.q
  pub families : AllByRecursion (FamilyFits program trees term.statement term.nest term.matrix (credited_nests term)) term.families
  pub apart : HasApart term.shape program trees term

-- A partition term whose claims hold, over true source trees, is sound.
abbrev pub PartitionsAreSound : Type 0
PartitionsAreSound = (program : AffineProgram) (trees : List (List SelectionTree)) (term : PartitionTerm) (place : List Step) → IsWellFormed program → RowsFit program 0 trees
    → RowsAreTrue program 0 trees → PartitionFits program trees term → AllHold (sound_claims program trees place term) → IsSoundTerm program term

-- Of one of the second shape no two families have a word in common, where their pieces fit.
abbrev pub PartitionsAreApart : Type 0
PartitionsAreApart = (program : AffineProgram) (trees : List (List SelectionTree)) (term : PartitionTerm) (place : List Step) (parameters : List ℤ) → IsWellFormed program
    → RowsFit program 0 trees → RowsAreTrue program 0 trees → PartitionFits program trees term → AllByRecursion (AllByRecursion (PieceFits program)) (pieces_of_families program trees term)
    → AllHold (partition_claims program trees place term) → IsAdmitted program parameters → AreApartFor term.shape program term parameters
