-- The inequality of the arithmetic and the geometric mean, in whole-number powers, and what follows from it
-- (Hardy, Littlewood and Pólya, Inequalities, 1934). 0^0 is 1.
use Rattle.std.specs.Prelude.{ℕ, ◌+◌, ◌*◌, ◌^◌, ◌≤◌, List, length, sum, sum_by}
use Rattle.uniform_cover.specs.Products.{product, product_by}

-- k^k times the product of k numbers is at most the k-th power of their sum
abbrev pub MeanInequality : Type 0
MeanInequality = (xs : List ℕ) → length xs ^ length xs * product xs ≤ sum xs ^ length xs

-- two factors that stand at one place of two products
pub record Pair : Type 0 where
  pub left : ℕ
  pub right : ℕ

-- the geometric mean is superadditive: two numbers whose k-th powers are within the scaled products of k left and of
-- k right factors have a sum whose k-th power is within the scaled product of the factors' sums
abbrev pub SuperadditiveStep : Type 0
SuperadditiveStep = (scale c e : ℕ) (pairs : List Pair)
    → c ^ length pairs ≤ scale * product_by (λ p. p.left) pairs
    → e ^ length pairs ≤ scale * product_by (λ p. p.right) pairs
    → (c + e) ^ length pairs ≤ scale * product_by (λ p. p.left + p.right) pairs

-- a number that counts as often as its weight says
pub record Weighted : Type 0 where
  pub number : ℕ
  pub weight : ℕ

-- M^M times the product of the numbers, each raised to its weight, is at most the product of the weights, each
-- raised to itself, times the M-th power of the numbers' sum, where M is the sum of the weights
abbrev pub WeightedMeanInequality : Type 0
WeightedMeanInequality = (xs : List Weighted) →
    let total = sum_by (λ x. x.weight) xs in
    total ^ total * product_by (λ x. x.number ^ x.weight) xs ≤ product_by (λ x. x.weight ^ x.weight) xs * sum_by (λ x. x.number) xs ^ total
