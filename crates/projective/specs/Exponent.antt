-- Least exponents of covers.
use Rattle.std.specs.Prelude.{ℕ, ◌*◌, ◌≤◌, List, sum}
use Rattle.cover_lp.specs.Cover.{IsCover, IsLeastPair}

-- The weights' total over q is the least that any rational cover has: for all weights over a denominator of at least 1
-- that cover the coordinates. (The duality of Gale, Kuhn and Tucker 1951.)
abbrev pub HasLeastExponent : List (List ℕ) → ℕ → ℕ → List ℕ → Type 0
HasLeastExponent sets d q weights = (other : ℕ) (others : List ℕ) → 1 ≤ other → IsCover sets d other others → sum weights * other ≤ q * sum others

-- A cover of a least pair has the least exponent.
abbrev pub LeastCoversHaveLeastExponents : Type 0
LeastCoversHaveLeastExponents = (sets : List (List ℕ)) (d q : ℕ) (weights packing : List ℕ)
    → IsLeastPair sets d q weights packing → HasLeastExponent sets d q weights
