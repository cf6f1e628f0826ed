-- The mean inequality, the superadditive step and the weighted mean inequality.
use Rattle.std.proofs.Common.{◌≡◌, ℕ, zero, suc, ◌+◌, ◌*◌, ◌^◌, ◌<◌, ◌≤◌, List, [], ◌∷◌, ◌++◌, length, sum, sum_by, arith, ap, refl, length-append}
use Rattle.std.proofs.lemmas.List.{length-replicate}
use Rattle.std.proofs.lemmas.List.Sums.{sum_by-cons, sum_by-append}
use Rattle.std.proofs.lemmas.List.Folds.{sum_by-replicate}
use Rattle.std.proofs.lemmas.Nat.{mul-pow, pow-add}
use Rattle.std.proofs.Math.ListN.{replicate}
use Rattle.std.proofs.Math.Nat.{mul-le-mul_left, pow-le-pow_left, one-le-pow, pow-suc, pow-zero, le_of_mul-le-mul_left, le_of_mul-le-mul_right, mul-pos, add_comm, zero-add, add-zero}
use Rattle.uniform_cover.specs.Products.{product, product_by}
use Rattle.uniform_cover.specs.Mean.{MeanInequality, SuperadditiveStep, WeightedMeanInequality}
use Rattle.uniform_cover.proofs.Powers.{one_beside, self_pow_pos, zero_from_pow, powers_add}
use Rattle.uniform_cover.proofs.ProductLemmas.{product_by_mono, product_by-append, product_by-replicate}

mean_step : (u c n x a w : ℕ) → 0 < c → u * (n * x) ≤ c * w → c * a ≤ n → u * (x * a) ≤ w
mean_step u c n x a w some beside before =
    let scaled : u * x * (c * a) ≤ u * x * n = mul-le-mul_left (u * x) before in
    let joined : c * (u * (x * a)) ≤ c * w = omega arith in
    le_of_mul-le-mul_left joined some

pub mean : MeanInequality
mean [] = simp pow-zero (omega arith)
mean (x ∷ xs) =
    rw (sum_by-cons (λ n. n) x xs, add_comm x (sum xs))
    (mean_step (suc (length xs) ^ suc (length xs)) (length xs ^ length xs) (sum xs ^ length xs) x (product xs) ((sum xs + x) ^ suc (length xs))
    (self_pow_pos (length xs)) (one_beside (length xs) (sum xs) x) (mean xs))

-- the numerator of the sum of f x / g x, over the product of the g x
numerator : {X : Type 0} (f g : X → ℕ) → List X → ℕ
numerator f g [] = 0
numerator f g (x ∷ xs) = f x * product_by g xs + g x * numerator f g xs

numerator_add : {X : Type 0} (f g : X → ℕ) (xs : List X) → numerator f (λ x. f x + g x) xs + numerator g (λ x. f x + g x) xs ≡ length xs * product_by (λ x. f x + g x) xs
unfolding numerator
numerator_add f g [] = refl
numerator_add f g (x ∷ xs) =
    let rest : numerator f (λ x. f x + g x) xs + numerator g (λ x. f x + g x) xs ≡ length xs * product_by (λ x. f x + g x) xs = numerator_add f g xs in
    add_step (f x) (g x) (product_by (λ x. f x + g x) xs) (numerator f (λ x. f x + g x) xs) (numerator g (λ x. f x + g x) xs) (length xs) rest
  where
    add_step : (a b p m n k : ℕ) → m + n ≡ k * p → a * p + (a + b) * m + (b * p + (a + b) * n) ≡ suc k * ((a + b) * p)
    add_step a b p m n k e =
        let scaled : (a + b) * (m + n) ≡ (a + b) * (k * p) = ap (λ z. (a + b) * z) e in
        omega arith

fraction_step : (u c s v r a t b p w : ℕ) → 0 < c → u * (s * v * (a * p)) ≤ c * w → c * b * r ≤ v * p → u * (a * b) * (s * r * (t * p)) ≤ w * (t * p)
fraction_step u c s v r a t b p w some beside before =
    let scaled : u * a * s * p * t * (c * b * r) ≤ u * a * s * p * t * (v * p) = mul-le-mul_left (u * a * s * p * t) before in
    let widened : t * p * (u * (s * v * (a * p))) ≤ t * p * (c * w) = mul-le-mul_left (t * p) beside in
    let joined : c * (u * (a * b) * (s * r * (t * p))) ≤ c * (w * (t * p)) = omega arith in
    le_of_mul-le-mul_left joined some

-- the mean inequality of the fractions f x / g x
fraction_mean : {X : Type 0} (f g : X → ℕ) (xs : List X) → length xs ^ length xs * product_by f xs * product_by g xs ^ length xs ≤ numerator f g xs ^ length xs * product_by g xs
unfolding numerator
fraction_mean f g [] = omega arith
fraction_mean f g (x ∷ xs) =
    let k = length xs in
    let p = product_by g xs in
    let n = numerator f g xs in
    let beside : suc k ^ suc k * (g x ^ k * n ^ k * (f x * p)) ≤ k ^ k * (g x * n + f x * p) ^ suc k = rw mul-pow at (one_beside k (g x * n) (f x * p)) in
    rw (pow-suc (g x * p) k, mul-pow (g x) p k, add_comm (f x * p) (g x * n))
    (fraction_step (suc k ^ suc k) (k ^ k) (g x ^ k) (n ^ k) (p ^ k) (f x) (g x) (product_by f xs) p ((g x * n + f x * p) ^ suc k)
    (self_pow_pos k) beside (fraction_mean f g xs))

-- the k-th power of k times a number within a scaled product, over the fractions' numerator
root_below : (k q c a n p : ℕ) → c ^ k ≤ q * a → k ^ k * a * p ^ k ≤ n ^ k * p → (k * c * p) ^ k ≤ q * p * n ^ k
root_below k q c a n p within before =
    let scaled : k ^ k * p ^ k * c ^ k ≤ k ^ k * p ^ k * (q * a) = mul-le-mul_left (k ^ k * p ^ k) within in
    let widened : q * (k ^ k * a * p ^ k) ≤ q * (n ^ k * p) = mul-le-mul_left q before in
    rw (mul-pow (k * c) p k, mul-pow k c k) (omega arith)

-- the sum of two such numbers, where the numerators add up to k times the common product
roots_add : (k q c e m n p : ℕ) → 0 < p → m + n ≡ k * p → (k * c * p) ^ k ≤ q * p * m ^ k → (k * e * p) ^ k ≤ q * p * n ^ k → (c + e) ^ k ≤ q * p
roots_add k q c e m n p some adds left right =
    let both : (k * c * p + k * e * p) ^ k ≤ q * p * (m + n) ^ k = powers_add k (q * p) (k * c * p) (k * e * p) m n left right in
    let sorted : k * c * p + k * e * p ≡ (c + e) * (k * p) = omega arith in
    let split : (c + e) ^ k * (k * p) ^ k ≤ q * p * (k * p) ^ k = rw (sorted, adds, mul-pow (c + e) (k * p) k) at both in
    let pos : 0 < (k * p) ^ k = rw (mul-pow k p k) (mul-pos (self_pow_pos k) (one-le-pow k p some)) in
    le_of_mul-le-mul_right split pos

module _ {X : Type 0} (f g : X → ℕ) where
  step_at : (p : ℕ) (q c e : ℕ) (xs : List X) → p ≡ product_by (λ x. f x + g x) xs
      → c ^ length xs ≤ q * product_by f xs → e ^ length xs ≤ q * product_by g xs
      → (c + e) ^ length xs ≤ q * product_by (λ x. f x + g x) xs
  step_at zero q c e xs is left right =
      let lower : product_by g xs ≤ product_by (λ x. f x + g x) xs = product_by_mono g (λ x. f x + g x) xs (λ x. omega arith) in
      let none : product_by g xs ≡ 0 = omega arith in
      let no_more : e ≡ 0 = zero_from_pow e (length xs) (let h : e ^ length xs ≤ q * 0 = rw none at right in omega arith) in
      let upper : q * product_by f xs ≤ q * product_by (λ x. f x + g x) xs = mul-le-mul_left q (product_by_mono f (λ x. f x + g x) xs (λ x. omega arith)) in
      rw (no_more, add-zero c) (omega arith)
  step_at (suc r) q c e xs is left right =
      let p = product_by (λ x. f x + g x) xs in
      let m = numerator f (λ x. f x + g x) xs in
      let n = numerator g (λ x. f x + g x) xs in
      roots_add (length xs) q c e m n p (omega arith) (numerator_add f g xs)
      (root_below (length xs) q c (product_by f xs) m p left (fraction_mean f (λ x. f x + g x) xs))
      (root_below (length xs) q e (product_by g xs) n p right (fraction_mean g (λ x. f x + g x) xs))

  -- the superadditive step over any list with two numbers at each element
  pub step_by : (q c e : ℕ) (xs : List X)
      → c ^ length xs ≤ q * product_by f xs → e ^ length xs ≤ q * product_by g xs
      → (c + e) ^ length xs ≤ q * product_by (λ x. f x + g x) xs
  step_by q c e xs left right = step_at (product_by (λ x. f x + g x) xs) q c e xs refl left right

pub step : SuperadditiveStep
step q c e pairs left right = step_by (λ p. p.left) (λ p. p.right) q c e pairs left right

two_sorted : (x y p q r s t w : ℕ) → t * (q * x * (p * y)) ≤ r * p * (q * s) * w → q * p * (t * (x * y)) ≤ q * p * (r * s * w)
two_sorted x y p q r s t w h = omega arith

-- of two numbers with weights m and n
two_weighted_some : (m n x y : ℕ) → 0 < m → 0 < n → (m + n) ^ (m + n) * (x ^ m * y ^ n) ≤ m ^ m * n ^ n * (x + y) ^ (m + n)
two_weighted_some m n x y some_m some_n =
    let xs = replicate m (n * x) ++ replicate n (m * y) in
    let long : length xs ≡ m + n = simp (length-append, length-replicate) in
    let product_is : product xs ≡ (n * x) ^ m * (m * y) ^ n = simp (product_by-append, product_by-replicate) in
    let sum_is : sum xs ≡ m * (n * x) + n * (m * y) = simp (sum_by-append, sum_by-replicate) in
    let sorted : m * (n * x) + n * (m * y) ≡ m * n * (x + y) = omega arith in
    let all : (m + n) ^ (m + n) * ((n * x) ^ m * (m * y) ^ n) ≤ (m * n * (x + y)) ^ (m + n) = rw (long, product_is, sum_is, sorted) at (mean xs) in
    let split : (m + n) ^ (m + n) * (n ^ m * x ^ m * (m ^ n * y ^ n)) ≤ m ^ m * m ^ n * (n ^ m * n ^ n) * (x + y) ^ (m + n) =
    rw (mul-pow n x m, mul-pow m y n, mul-pow (m * n) (x + y) (m + n), mul-pow m n (m + n), pow-add m m n, pow-add n m n) at all in
    let pos : 0 < n ^ m * m ^ n = mul-pos (one-le-pow m n some_n) (one-le-pow n m some_m) in
    le_of_mul-le-mul_left (two_sorted (x ^ m) (y ^ n) (m ^ n) (n ^ m) (m ^ m) (n ^ n) ((m + n) ^ (m + n)) ((x + y) ^ (m + n)) split) pos

two_weighted : (m n x y : ℕ) → (m + n) ^ (m + n) * (x ^ m * y ^ n) ≤ m ^ m * n ^ n * (x + y) ^ (m + n)
two_weighted zero n x y =
    let upper : y ^ n ≤ (x + y) ^ n = pow-le-pow_left (omega arith) n in
    let scaled : n ^ n * y ^ n ≤ n ^ n * (x + y) ^ n = mul-le-mul_left (n ^ n) upper in
    simp (zero-add, pow-zero) (omega arith)
two_weighted (suc m) zero x y =
    let upper : x ^ suc m ≤ (x + y) ^ suc m = pow-le-pow_left (omega arith) (suc m) in
    let scaled : suc m ^ suc m * x ^ suc m ≤ suc m ^ suc m * (x + y) ^ suc m = mul-le-mul_left (suc m ^ suc m) upper in
    simp (add-zero, pow-zero) (omega arith)
two_weighted (suc m) (suc n) x y = two_weighted_some (suc m) (suc n) x y (omega arith) (omega arith)

weighted_step : (c u x s r a b w : ℕ) → 0 < c → u * (x * s) ≤ r * c * w → c * a ≤ b * s → u * (x * a) ≤ r * b * w
weighted_step c u x s r a b w some beside before =
    let scaled : u * x * (c * a) ≤ u * x * (b * s) = mul-le-mul_left (u * x) before in
    let widened : b * (u * (x * s)) ≤ b * (r * c * w) = mul-le-mul_left b beside in
    let joined : c * (u * (x * a)) ≤ c * (r * b * w) = omega arith in
    le_of_mul-le-mul_left joined some

module _ {X : Type 0} (number weight : X → ℕ) where
  -- the weighted mean inequality over any list with a number and a weight at each element
  pub weighted_by : (xs : List X) → sum_by weight xs ^ sum_by weight xs * product_by (λ x. number x ^ weight x) xs ≤ product_by (λ x. weight x ^ weight x) xs * sum_by number xs ^ sum_by weight xs
  weighted_by [] = omega arith
  weighted_by (x ∷ xs) =
      let m = weight x in
      let n = sum_by weight xs in
      rw (sum_by-cons weight x xs, sum_by-cons number x xs)
      (weighted_step (n ^ n) ((m + n) ^ (m + n)) (number x ^ m) (sum_by number xs ^ n) (m ^ m) (product_by (λ x. number x ^ weight x) xs) (product_by (λ x. weight x ^ weight x) xs) ((number x + sum_by number xs) ^ (m + n))
      (self_pow_pos n) (two_weighted m n (number x) (sum_by number xs)) (weighted_by xs))

pub weighted_mean : WeightedMeanInequality
weighted_mean xs = weighted_by (λ x. x.number) (λ x. x.weight) xs
