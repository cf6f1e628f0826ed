-- The numbers of a partition term's bound.
use Rattle.std.specs.Prelude.{◌≡◌, ℕ, ◌^◌}
use Rattle.iolb_model.specs.Bound.{StretchNumbers}
use Rattle.uniform_cover.specs.Products.{product_by}
use Rattle.reuse_paths.specs.Families.{FamilyForms}
use Rattle.k_partition.specs.declared.term.PartitionBound.{PartitionBound}
use Rattle.k_partition.specs.declared.term.Shape.{Shape}
use Rattle.k_partition.specs.declared.term.Shape.TheVariants.{Each, Sum}
use Rattle.k_partition.specs.Term.{PartitionTerm}
use Rattle.k_partition.specs.TermLoads.{weight_of}

-- the factor with which the labels of a stretch count, as a numerator and a denominator
abbrev pub factor_over : Shape → PartitionTerm → ℕ
factor_over Each term = 1
factor_over Sum term = product_by (λ (family : FamilyForms). family.weight ^ family.weight) term.families

abbrev pub factor_under : Shape → PartitionTerm → ℕ
factor_under Each term = 1
factor_under Sum term = weight_of term ^ weight_of term

-- a bound has the numbers of a term
pub record HasNumbers (term : PartitionTerm) (bound : PartitionBound) : Type 0 where
  pub a : bound.a ≡ term.a
  pub b : bound.b ≡ term.b
  pub q : bound.q ≡ term.q
  pub m : bound.m ≡ weight_of term
  pub num : bound.num ≡ factor_over term.shape term
  pub den : bound.den ≡ factor_under term.shape term

-- its numbers as those of a bound's term
abbrev pub numbers_of : PartitionBound → StretchNumbers
numbers_of bound = record { a = bound.a; b = bound.b; q = bound.q; m = bound.m; num = bound.num; den = bound.den }
