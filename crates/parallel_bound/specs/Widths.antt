-- Where the values of a bound for several processors are beyond 128 bits.
use Rattle.std.specs.Prelude.{ℕ, ◌-◌, ◌*◌, ◌/◌, ◌≤◌, ◌⊎◌, ℤ, List, [], ◌∷◌, fold, map, max, sum}
use Rattle.iolb_model.specs.Bound.{count_value, events_of, points_of}
use Rattle.iolb_model.specs.Parallel.{ceiling, parallel_branch_value, shared_part}
use Rattle.iolb_model.specs.declared.limits.TheConstants.{MEASURE}
use Rattle.k_partition.specs.declared.term.PartitionBound.{PartitionBound}
use Rattle.k_partition.specs.Numbers.{numbers_of}
use Rattle.poly_tree.specs.Printed.{polynomial_of}
use Rattle.iolb_check.specs.Bounds.{AreWideLabels, IsWideAt, IsWideTimes, terms_of}
use Rattle.iolb_check.specs.declared.bound.Value.{Value}
use Rattle.iolb_check.specs.declared.bound.Value.TheVariants.{Cold, Joint, Partition, Wavefront}

-- how many of a partition term's instances, or of a joint term's images, are one processor's share
abbrev pub share_at : List ℤ → ℕ → PartitionBound → ℕ
share_at sizes processors bound = ceiling (count_value (polynomial_of bound.count) sizes) processors

-- the events of as many stretches as a share fills, but for the last, reach 2^126
abbrev pub AreWideShares : List ℤ → ℕ → ℕ → PartitionBound → Type 0
AreWideShares sizes processors s bound =
    MEASURE ≤ events_of (numbers_of bound) s * ((share_at sizes processors bound - 1) / points_of (numbers_of bound) s)

-- one of the polynomials of a partition or joint term is wide, or the labels of a stretch, or the events of a share's stretches
abbrev pub IsWideOwn : List ℤ → ℕ → ℕ → PartitionBound → Type 0
IsWideOwn sizes processors s bound =
    IsWideAt sizes bound.count ⊎ (IsWideAt sizes bound.credits ⊎ (AreWideLabels s (numbers_of bound) ⊎ AreWideShares sizes processors s bound))

-- one of a term's polynomials is wide, or what may be red on all processors for a wavefront term's vertices
abbrev pub IsWideInParallel : List ℤ → ℕ → ℕ → Value → Type 0
IsWideInParallel sizes processors s (Cold count) = IsWideAt sizes count
IsWideInParallel sizes processors s (Partition bound) = IsWideOwn sizes processors s bound
IsWideInParallel sizes processors s (Wavefront pairs outer) = IsWideAt sizes pairs ⊎ (IsWideAt sizes outer ⊎ IsWideTimes sizes (processors * s) outer)
IsWideInParallel sizes processors s (Joint bound) = IsWideOwn sizes processors s bound

-- one of the terms is wide
abbrev pub HasWideParallelTerm : List ℤ → ℕ → ℕ → List Value → Type 0
HasWideParallelTerm sizes processors s [] = ⊥
HasWideParallelTerm sizes processors s (term ∷ terms) = IsWideInParallel sizes processors s term ⊎ HasWideParallelTerm sizes processors s terms

-- what all processors load together for a branch's terms
abbrev pub shared_sum : List Value → List ℤ → ℕ → ℕ → ℕ
shared_sum terms sizes processors s = sum (map (λ term. shared_part term sizes processors s) (terms_of terms))

-- one of a branch's terms is wide, or their shared parts reach 2^126 together
abbrev pub IsWideParallelBranch : List ℤ → ℕ → ℕ → List Value → Type 0
IsWideParallelBranch sizes processors s terms = HasWideParallelTerm sizes processors s terms ⊎ (MEASURE ≤ shared_sum terms sizes processors s)

-- one of the branches is wide
abbrev pub HasWideParallelBranch : List ℤ → ℕ → ℕ → List (List Value) → Type 0
HasWideParallelBranch sizes processors s [] = ⊥
HasWideParallelBranch sizes processors s (terms ∷ branches) = IsWideParallelBranch sizes processors s terms ⊎ HasWideParallelBranch sizes processors s branches

-- the greatest of a number and the values of branches
abbrev pub greatest_parallel_branch : List (List Value) → List ℤ → ℕ → ℕ → ℕ → ℕ
greatest_parallel_branch branches sizes processors s least = fold max least (map (λ terms. parallel_branch_value (terms_of terms) sizes processors s) branches)
