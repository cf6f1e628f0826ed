-- Partition terms, as plain values.
use Rattle.std.specs.Prelude.{ℕ, List, map}
use Rattle.iolb_model.specs.Form.{AffineForm}
use Rattle.affine_form.specs.Matrix.{IntegerMatrix}
use Rattle.affine_form.specs.Multipliers.{FarkasMultipliers}
use Rattle.domain_count.specs.Claims.{SumClaims}
use Rattle.reuse_paths.specs.Families.{CreditedNest, FamilyForms}
use Rattle.k_partition.specs.declared.term.Shape.{Shape}

-- a credited nest, with what is claimed of its number of points
pub record CreditTerm : Type 0 where
  pub nest : CreditedNest
  pub count : SumClaims

-- A partition term: the instances of a statement in a nest, with what is claimed of their number and what shows that they are
-- instances; a matrix of coordinates with its inverse; how often the families' sets cover the coordinates, and the shape; a
-- and b, which say how many events a stretch has; the credited nests; the families; and what shows that no two of these have
-- a word in common.
pub record PartitionTerm : Type 0 where
  pub statement : ℕ
  pub nest : List (AffineForm × AffineForm)
  pub count : SumClaims
  pub inside : List FarkasMultipliers
  pub matrix : IntegerMatrix
  pub inverse : IntegerMatrix
  pub q : ℕ
  pub shape : Shape
  pub a : ℕ
  pub b : ℕ
  pub credits : List CreditTerm
  pub families : List FamilyForms
  pub apart : List FarkasMultipliers

-- the nests that are credited
abbrev pub credited_nests : PartitionTerm → List CreditedNest
credited_nests term = map (λ (credit : CreditTerm). credit.nest) term.credits
