-- A term's numbers, which its bound has, allow as many points in a stretch as the cover inequality does.
use Rattle.std.proofs.Common.{◌≡◌, ℕ, ◌+◌, ◌*◌, ◌^◌, ◌≤◌, arith}
use Rattle.iolb_model.specs.Bound.{greatest_up_to, points_of}
use Rattle.uniform_cover.proofs.Powers.{self_pow_pos}
use Rattle.k_partition.specs.declared.term.PartitionBound.{PartitionBound}
use Rattle.k_partition.specs.declared.term.Shape.{Shape}
use Rattle.k_partition.specs.declared.term.Shape.TheVariants.{Each, Sum}
use Rattle.k_partition.specs.Numbers.{factor_over, factor_under, HasNumbers, numbers_of}
use Rattle.k_partition.specs.Term.{PartitionTerm}
use Rattle.k_partition.specs.TermLoads.{IsGreatestOf, stretch_of, weight_of}
use Rattle.k_partition.specs.TermRuns.{stretch_numbers}
use Rattle.k_partition.proofs.GreatestUpTo.{greatest-is}

-- U of the definition of a bound's value is the greatest number that the laws ask for
module _ (term : PartitionTerm) (s : ℕ) where
  abbrev labels : Shape → ℕ
  labels shape = factor_over shape term * (s + stretch_of term s) ^ weight_of term

  greatest-by : 1 ≤ term.q → (shape : Shape) → IsGreatestOf shape term s (greatest_up_to term.q (factor_under shape term) (labels shape) (labels shape))
  greatest-by positive Each = greatest-is term.q 1 (labels Each) positive (omega arith)
  greatest-by positive Sum = greatest-is term.q (factor_under Sum term) (labels Sum) positive (omega (arith, self_pow_pos (weight_of term)))

  pub greatest-of : 1 ≤ term.q → IsGreatestOf term.shape term s (points_of (stretch_numbers term) s)
  greatest-of positive = greatest-by positive term.shape

pub same-numbers : (term : PartitionTerm) (bound : PartitionBound) → HasNumbers term bound → numbers_of bound ≡ stretch_numbers term
same-numbers term bound has = λ i. record { a = has.a i; b = has.b i; q = has.q i; m = has.m i; num = has.num i; den = has.den i }
