-- Lists that share one list of all their elements, each with the number of the element that follows it.
use Rattle.std.specs.Prelude.{ℕ, zero, suc, ◌≤◌, List, [], ◌∷◌, length, slice_index_or}

-- at most so many elements from the one of this number on, where numbers count from 1 and 0 is none
abbrev pub chain : ℕ → List (ℕ × ℕ) → ℕ → List ℕ
chain zero all number = []
chain (suc most) all zero = []
chain (suc most) all (suc i) = (slice_index_or all i (0, 0)).0 ∷ chain most all (slice_index_or all i (0, 0)).1

-- all from the one of this number on: each stands behind those that follow it, so there are no more than the number
abbrev pub uses_from : List (ℕ × ℕ) → ℕ → List ℕ
uses_from all number = chain number all number

-- each element is followed by one before it, and each list begins with one that is there
pub record AreLinked (all : List (ℕ × ℕ)) (firsts : List ℕ) : Type 0 where
  pub before : (i : ℕ) → (slice_index_or all i (0, 0)).1 ≤ i
  pub there : (u : ℕ) → slice_index_or firsts u 0 ≤ length all
