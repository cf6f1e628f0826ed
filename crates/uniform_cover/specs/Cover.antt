-- The uniform cover inequality (Loomis and Whitney, 1949; Bollobás and Thomason, 1995), in whole-number powers, where
-- 0^0 is 1. Points are of any type V, their coordinates of a type C and the labels of a type L.
use Rattle.std.specs.Prelude.{◌≡◌, ℕ, ◌*◌, ◌^◌, ◌<◌, ◌≤◌, Bool, cond, List, length, sum_by, Contains, IsTrue}
use Rattle.std.specs.List.{AllByRecursion, IsDistinct}
use Rattle.uniform_cover.specs.Products.{product_by}
use Rattle.uniform_cover.specs.Greatest.{IsGreatest}

-- a family: whether its set has a coordinate, the set's weight, the label of each point, and a list of labels
pub record Family (V L : Type 0) : Type 0 where
  pub has : ℕ → Bool
  pub weight : ℕ
  pub label : V → L
  pub labels : List L

-- two points agree at the first d coordinates
abbrev pub Agree : {V C : Type 0} → (V → ℕ → C) → ℕ → V → V → Type 0
Agree coordinate d u v = (i : ℕ) → i < d → coordinate u i ≡ coordinate v i

-- a label fixes its set: points with one label agree at each coordinate of the set
abbrev pub FixesSet : {V C L : Type 0} → (V → ℕ → C) → ℕ → List V → Family V L → Type 0
FixesSet {V} coordinate d points family = (u v : V) → Contains points u → Contains points v
    → family.label u ≡ family.label v → (i : ℕ) → i < d → IsTrue (family.has i) → coordinate u i ≡ coordinate v i

-- the family's list has the label of each point
abbrev pub HasLabels : {V L : Type 0} → List V → Family V L → Type 0
HasLabels {V} points family = (v : V) → Contains points v → Contains family.labels (family.label v)

-- the weights of the families whose set has the coordinate i, added up
abbrev pub weight_at : {V L : Type 0} → ℕ → List (Family V L) → ℕ
weight_at i families = sum_by (λ f. cond (f.has i) f.weight 0) families

-- each of the d coordinates of different points lies in sets of total weight at least q, and of each family the labels
-- fix the set and are listed
pub record IsUniformCover {V C L : Type 0} (same : V → V → Bool) (q d : ℕ) (coordinate : V → ℕ → C) (points : List V) (families : List (Family V L)) : Type 0 where
  pub positive : 1 ≤ q
  pub distinct : IsDistinct same points
  -- points that agree at all coordinates are one
  pub told_apart : (u v : V) → Contains points u → Contains points v → Agree coordinate d u v → u ≡ v
  pub fixed : AllByRecursion (FixesSet coordinate d points) families
  pub held : AllByRecursion (HasLabels points) families
  pub covered : (i : ℕ) → i < d → q ≤ weight_at i families

-- the q-th power of the number of points is at most the product of the numbers of labels, each raised to its weight
abbrev pub CoverInequality : (V C L : Type 0) → (V → V → Bool) → Type 0
CoverInequality V C L same = (q d : ℕ) (coordinate : V → ℕ → C) (points : List V) (families : List (Family V L))
    → IsUniformCover same q d coordinate points families
    → length points ^ q ≤ product_by (λ f. length f.labels ^ f.weight) families

-- where no family lists more than k labels, it is at most k raised to the sum of the weights
abbrev pub CoverInequalityEach : (V C L : Type 0) → (V → V → Bool) → Type 0
CoverInequalityEach V C L same = (q d k : ℕ) (coordinate : V → ℕ → C) (points : List V) (families : List (Family V L))
    → IsUniformCover same q d coordinate points families
    → AllByRecursion (λ f. length f.labels ≤ k) families
    → length points ^ q ≤ k ^ sum_by (λ f. f.weight) families

-- where the families list at most k labels together, it is, times M^M, at most the product of the weights, each raised
-- to itself, times k^M, where M is the sum of the weights
abbrev pub CoverInequalitySum : (V C L : Type 0) → (V → V → Bool) → Type 0
CoverInequalitySum V C L same = (q d k : ℕ) (coordinate : V → ℕ → C) (points : List V) (families : List (Family V L))
    → IsUniformCover same q d coordinate points families
    → sum_by (λ f. length f.labels) families ≤ k
    → let total = sum_by (λ f. f.weight) families in
    length points ^ q * total ^ total ≤ product_by (λ f. f.weight ^ f.weight) families * k ^ total

-- so there are at most as many points as the greatest number that the inequality allows, in the first case
abbrev pub CoverBoundEach : (V C L : Type 0) → (V → V → Bool) → Type 0
CoverBoundEach V C L same = (q d k u : ℕ) (coordinate : V → ℕ → C) (points : List V) (families : List (Family V L))
    → IsUniformCover same q d coordinate points families
    → AllByRecursion (λ f. length f.labels ≤ k) families
    → IsGreatest q 1 (1 * k ^ sum_by (λ f. f.weight) families) u
    → length points ≤ u

-- and in the second
abbrev pub CoverBoundSum : (V C L : Type 0) → (V → V → Bool) → Type 0
CoverBoundSum V C L same = (q d k u : ℕ) (coordinate : V → ℕ → C) (points : List V) (families : List (Family V L))
    → IsUniformCover same q d coordinate points families
    → sum_by (λ f. length f.labels) families ≤ k
    → let total = sum_by (λ f. f.weight) families in
    IsGreatest q (total ^ total) (product_by (λ f. f.weight ^ f.weight) families * k ^ total) u
    → length points ≤ u
