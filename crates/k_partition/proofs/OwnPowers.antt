-- Powers of weights with themselves, and how great they are: those of weights that are 24 together are at most 24^24.
use Rattle.std.proofs.Common.{◌≡◌, sym, ◌∙◌, ap, subst, ℕ, suc, ◌+◌, ◌*◌, ◌^◌, ◌<◌, ◌≤◌, List, [], ◌∷◌, drop, get_or, length, sum_by, arith}
use Rattle.std.proofs.lemmas.List.Sums.{sum_by-cons}
use Rattle.std.proofs.lemmas.Nat.{pow-add}
use Rattle.std.proofs.Math.Nat.{mul-le-mul, mul-pos, pow-le-pow_left, pow-le-pow_right, pow-suc}
use Rattle.base_laws.proofs.Lists.{rest_at}
use Rattle.uniform_cover.specs.Products.{product_by}
use Rattle.uniform_cover.proofs.Powers.{self_pow_pos}
use Rattle.reuse_paths.specs.declared.family.Family.{Family}

-- 24 with itself
abbrev pub greatest : ℕ
greatest = 1333735776850284124449081472843776

-- a number raised to itself rises with it
pub own-rises : (n m : ℕ) → 1 ≤ m → n ≤ m → n ^ n ≤ m ^ m
own-rises n m some h =
    let left : n ^ n ≤ m ^ n = pow-le-pow_left h n in
    let right : m ^ n ≤ m ^ m = pow-le-pow_right some h in
    omega (arith, left, right)

pub own-most : (n : ℕ) → n ≤ 24 → n ^ n ≤ greatest
own-most n h = let risen : n ^ n ≤ 24 ^ 24 = own-rises n 24 (omega arith) h in omega (arith, risen)

-- the next power of a number, up to that with itself
pub next-most : (n i power : ℕ) → n ≤ 24 → i < n → power ≡ n ^ i → power * n ≤ greatest
next-most n i power h below is =
    let risen : n ^ suc i ≤ n ^ n = pow-le-pow_right (omega (arith, below)) (omega (arith, below)) in
    omega (arith, ap (λ (x : ℕ). x * n) is, pow-suc n i, risen, own-most n h)

pub next-power : (n i power : ℕ) → power ≡ n ^ i → power * n ≡ n ^ (i + 1)
next-power n i power is = ap (λ (x : ℕ). x * n) is ∙ sym (pow-suc n i) ∙ ap (λ (k : ℕ). n ^ k) (one-more i) where
  one-more : (k : ℕ) → suc k ≡ k + 1
  one-more k = omega arith

-- the product of numbers raised to themselves is at most their sum raised to itself
pub powers-within : {X : Type 0} (of : X → ℕ) (xs : List X) → product_by (λ (x : X). of x ^ of x) xs ≤ sum_by of xs ^ sum_by of xs
powers-within of [] = omega arith
powers-within {X} of (x ∷ xs) =
    let a : ℕ = of x in
    let b : ℕ = sum_by of xs in
    let rest : ℕ = product_by (λ (y : X). of y ^ of y) xs in
    let both : a ^ a * rest ≤ (a + b) ^ a * (a + b) ^ b =
    mul-le-mul (pow-le-pow_left (omega arith) a) (within rest (b ^ b) ((a + b) ^ b) (powers-within of xs) (pow-le-pow_left (omega arith) b)) in
    subst (λ (n : ℕ). a ^ a * rest ≤ n ^ n) (sym (sum_by-cons of x xs)) (subst (λ (n : ℕ). a ^ a * rest ≤ n) (sym (pow-add (a + b) a b)) both) where
      within : (x y z : ℕ) → x ≤ y → y ≤ z → x ≤ z
      within x y z p q = omega (arith, p, q)

-- ---- of weights

abbrev pub own : Family → ℕ
own family = family.weight ^ family.weight

abbrev pub weights : List Family → ℕ
weights families = sum_by (λ (f : Family). f.weight) families

pub powers-some : (families : List Family) → 1 ≤ product_by own families
powers-some [] = omega arith
powers-some (family ∷ families) = mul-pos (self_pow_pos family.weight) (powers-some families)

-- one weight more
pub powers-next : (families : List Family) (i : ℕ) (family : Family) (product power : ℕ) → i < length families → family ≡ get_or families i family → power ≡ own family
    → product * product_by own (drop i families) ≡ product_by own families → product * power * product_by own (drop (i + 1) families) ≡ product_by own families
powers-next families i family product power below is e h =
    ap (λ (n : ℕ). product * n * product_by own (drop (i + 1) families)) e ∙ turned product (own family) (product_by own (drop (i + 1) families))
    ∙ ap (λ (fs : List Family). product * product_by own fs) (sym (rest_at families i family below is)) ∙ h where
      turned : (x y z : ℕ) → x * y * z ≡ x * (y * z)
      turned x y z = grind arith

pub powers-most : (families : List Family) (i : ℕ) (product : ℕ) → weights families ≤ 24 → product * product_by own (drop i families) ≡ product_by own families → product ≤ greatest
powers-most families i product light h =
    let grown : product * 1 ≤ product * product_by own (drop i families) = mul-le-mul (same product) (powers-some (drop i families)) in
    let all : product_by own families ≤ weights families ^ weights families = powers-within (λ (f : Family). f.weight) families in
    omega (arith, grown, h, all, own-most (weights families) light) where
      same : (n : ℕ) → n ≤ n
      same n = omega arith
