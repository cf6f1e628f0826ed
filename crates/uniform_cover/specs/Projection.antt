-- The uniform cover inequality of a finite set of points and its projections on sets of coordinates (Loomis and
-- Whitney, 1949; Bollobás and Thomason, 1995). A point is the list of its coordinates.
use Rattle.std.specs.Prelude.{◌≡◌, ℕ, ℤ, suc, ◌^◌, ◌<◌, ◌≤◌, Bool, cond, List, [], ◌∷◌, length, map, sum_by}
use Rattle.std.specs.Cmp.Lexicographic.{pointwise}
use Rattle.std.specs.List.{AllByRecursion, IsDistinct}
use Rattle.std.specs.Ordering.{int_eq}
use Rattle.std.specs.Set.{unique_keys}
use Rattle.uniform_cover.specs.Products.{product_by}

-- a set of coordinates, by their indices, with its weight
pub record CoordinateSet : Type 0 where
  pub has : ℕ → Bool
  pub weight : ℕ

-- two points have the same coordinates
abbrev pub same_point : List ℤ → List ℤ → Bool
same_point p r = pointwise int_eq p r

-- the coordinates of a point at the indices of a set, in order
abbrev pub restrict : (ℕ → Bool) → List ℤ → List ℤ
restrict has [] = []
restrict has (x ∷ xs) = cond (has 0) (x ∷ restrict (λ i. has (suc i)) xs) (restrict (λ i. has (suc i)) xs)

-- the projection of a set of points on a set of coordinates: each restricted point once
abbrev pub projection : (ℕ → Bool) → List (List ℤ) → List (List ℤ)
projection has points = unique_keys same_point (map (restrict has) points)

-- the q-th power of the number of points is at most the product of the sizes of their projections, each raised to its
-- weight, where each coordinate lies in sets of total weight at least q
abbrev pub ProjectionInequality : Type 0
ProjectionInequality = (q d : ℕ) (points : List (List ℤ)) (sets : List CoordinateSet) → 1 ≤ q
    → AllByRecursion (λ p. length p ≡ d) points
    → IsDistinct same_point points
    → ((i : ℕ) → i < d → q ≤ sum_by (λ s. cond (s.has i) s.weight 0) sets)
    → length points ^ q ≤ product_by (λ s. length (projection s.has points) ^ s.weight) sets
