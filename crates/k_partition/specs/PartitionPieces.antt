-- The pieces of a partition term's footprint, and the number of its credited points.
use Rattle.std.specs.Prelude.{◌≡◌, ℤ, pos, ◌*ℤ◌, List, [], flat_map}
use Rattle.std.specs.List.{AllByRecursion}
use Rattle.iolb_model.specs.Program.{AffineProgram}
use Rattle.iolb_model.specs.Bound.{IsAdmitted}
use Rattle.claims.specs.Claims.{AllHold}
use Rattle.dep_quast.specs.Tree.{SelectionTree}
use Rattle.poly_tree.specs.Poly.{Quotient, numerator_at}
use Rattle.reuse_paths.specs.Families.{FamilyForms}
use Rattle.reuse_paths.specs.FamilyPieces.{family_pieces}
use Rattle.reuse_paths.specs.FewContexts.{few_contexts}
use Rattle.footprint_pieces.specs.Pieces.{FootprintPiece}
use Rattle.k_partition.specs.Term.{PartitionTerm}
use Rattle.k_partition.specs.TermLoads.{credited_count}

-- those of each of its families, family by family
abbrev pub partition_pieces : AffineProgram → List (List SelectionTree) → PartitionTerm → List FootprintPiece
partition_pieces program trees term = flat_map (family_pieces program trees term.statement term.nest) term.families

-- the rows of each context of its families are few
abbrev pub HasPartitionPieces : AffineProgram → List (List SelectionTree) → PartitionTerm → Type 0
HasPartitionPieces program trees term =
    AllByRecursion (λ (family : FamilyForms). AllHold (few_contexts program trees term.statement term.nest family [])) term.families

-- A polynomial counts the points of the credited nests: at all admitted parameter values, of any size, its value is the sum
-- of how many points each of them has, stated without fractions.
abbrev pub CountsCredits : AffineProgram → PartitionTerm → Quotient → Type 0
CountsCredits program term poly = (values : List ℤ) → IsAdmitted program values
    → numerator_at poly values ≡ pos (credited_count term values) *ℤ pos poly.denominator
