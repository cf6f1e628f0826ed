-- The partition term of a projective program's whole domain.
use Rattle.std.specs.Prelude.{◌≡◌, ℕ, ◌-◌, ◌*◌, ◌/◌, max, ◌==◌, if◌then◌else◌, ℤ, List, [], length, map, flat_map, sum}
use Rattle.std.specs.List.{range_with_len}
use Rattle.iolb_model.specs.Program.{AffineProgram}
use Rattle.execution_laws.specs.Inverse.{scaled_entry}
use Rattle.affine_form.specs.Matrix.{IntegerMatrix}
use Rattle.affine_program.specs.Domain.{bounds_at}
use Rattle.dep_quast.specs.Tree.{SelectionTree}
use Rattle.k_partition.specs.declared.term.Shape.TheVariants.{Sum}
use Rattle.k_partition.specs.Term.{PartitionTerm}
use Rattle.projective.specs.Products.{IsProductCount}
use Rattle.projective.specs.Projective.{projection_sets}
use Rattle.projective_bounds.specs.Families.{array_families}
use Rattle.projective_bounds.specs.Multipliers.{rows_taken}

-- the identity matrix of a size
abbrev pub identity_row : ℕ → ℕ → List ℤ
identity_row size row = map (scaled_entry 1 row) (range_with_len 0 size)

abbrev pub identity_matrix : ℕ → IntegerMatrix
identity_matrix size = record { rows = size; columns = size; cells = flat_map (identity_row size) (range_with_len 0 size) }

-- How many events a stretch has for each word that is red, where the weights of a cover of q add up to a total: that which makes
-- the bound strongest for the exponent total / q, rounded down, and at least 1; 16 where they are the same.
abbrev pub stretch_for : ℕ → ℕ → ℕ
stretch_for q total = if total == q then 16 else max 1 (q / (total - q))

-- The term of all instances: its coordinates are the loops, and its families those of the arrays whose weight in the cover isn't 0.
pub record IsWholeTerm (program : AffineProgram) (trees : List (List SelectionTree)) (q : ℕ) (weights : List ℕ) (term : PartitionTerm) : Type 0 where
  pub statement : term.statement ≡ 0
  pub nest : term.nest ≡ bounds_at program 0
  pub count : IsProductCount program term.nest term.count
  pub inside : term.inside ≡ rows_taken (length program.assumptions) (2 * length term.nest)
  pub matrix : term.matrix ≡ identity_matrix (length term.nest)
  pub inverse : term.inverse ≡ identity_matrix (length term.nest)
  pub cover : term.q ≡ q
  pub shape : term.shape ≡ Sum
  pub a : term.a ≡ stretch_for q (sum weights)
  pub b : term.b ≡ 0
  pub credits : term.credits ≡ []
  pub families : term.families ≡ array_families program trees 0 (projection_sets program) weights
  pub apart : term.apart ≡ []
