-- Laws of products and powers of whole numbers, where 0^0 is 1.
use Rattle.std.proofs.Common.{◌≡◌, ℕ, zero, suc, ◌+◌, ◌*◌, ◌^◌, ◌<◌, ◌≤◌, ◌-◌, arith, refl, ⊎_elim}
use Rattle.std.proofs.lemmas.Bool.{cases_lt}
use Rattle.std.proofs.lemmas.Nat.{mul-pow}
use Rattle.std.proofs.Math.Nat.{mul-le-mul, mul-le-mul_left, mul-le-mul_right, pow-le-pow_left, pow-le-pow_right, one-le-pow, pow-suc, pow-zero, le_of_mul-le-mul_left, le_of_mul-le-mul_right, zero-add, add-zero, add_comm}

-- a power that is scaled rises with its exponent
pub scaled-pow_mono : (p b i j : ℕ) → 1 ≤ b → i ≤ j → p * b ^ i ≤ p * b ^ j
scaled-pow_mono p b i j one le = mul-le-mul_left p (pow-le-pow_right one le)

-- a power that is scaled rises with its base
pub pow-scaled_mono : (p q a b : ℕ) → a ≤ b → a ^ q * p ≤ b ^ q * p
pow-scaled_mono p q a b le = mul-le-mul_right p (pow-le-pow_left le q)

-- what is at least 1 is at most its power, scaled
pub self-le-pow_scaled : (a q p : ℕ) → 1 ≤ a → 1 ≤ q → 1 ≤ p → a ≤ a ^ q * p
self-le-pow_scaled a zero p one one_q one_p = omega arith
self-le-pow_scaled a (suc q) p one one_q one_p =
    let risen : 1 ≤ a ^ q = one-le-pow q a one in
    let scaled : 1 * a ≤ a ^ q * p * a = mul-le-mul_right a (let both : 1 * 1 ≤ a ^ q * p = mul-le-mul risen one_p in omega arith) in
    rw (pow-suc a q) (omega arith)

-- a number raised to itself is at least 1, as 0^0 is
pub self_pow_pos : (n : ℕ) → 0 < n ^ n
self_pow_pos zero = omega arith
self_pow_pos (suc n) = let h : 1 ≤ suc n ^ suc n = one-le-pow (suc n) (suc n) (omega arith) in omega arith

-- only 0 has the power 0
pub zero_from_pow : (c k : ℕ) → c ^ k ≤ 0 → c ≡ 0
zero_from_pow zero k h = refl
zero_from_pow (suc c) k h = let risen : 1 ≤ suc c ^ k = one-le-pow k (suc c) (omega arith) in absurd (omega arith)

-- to exchange the factors of two products that are in order lowers their sum
exchange_in : (a p d e : ℕ) → a * (p + e) + p * (a + d) ≤ a * p + (a + d) * (p + e)
exchange_in a p d e = omega arith

exchange_at : (a b p q : ℕ) → a ≤ b → p ≤ q → a * q + p * b ≤ a * p + b * q
exchange_at a b p q le_b le_q =
    let is_b : b ≡ a + (b - a) = omega arith in
    let is_q : q ≡ p + (q - p) = omega arith in
    exchange_by a b p q (b - a) (q - p) is_b is_q
  where
    exchange_by : (a b p q d e : ℕ) → b ≡ a + d → q ≡ p + e → a * q + p * b ≤ a * p + b * q
    exchange_by a b p q d e is_b is_q = rw (is_b, is_q) (exchange_in a p d e)

exchange : (a b k : ℕ) → a * b ^ k + a ^ k * b ≤ a * a ^ k + b * b ^ k
exchange a b k =
    ⊎_elim
    (λ h. exchange_at a b (a ^ k) (b ^ k) (omega arith) (pow-le-pow_left (omega arith) k))
    (λ h. let turned : b * a ^ k + b ^ k * a ≤ b * b ^ k + a * a ^ k = exchange_at b a (b ^ k) (a ^ k) h (pow-le-pow_left h k) in omega arith)
    (cases_lt a b)

young_step : (k a b r p : ℕ) → suc k * (a * r) ≤ p + k * (r * b) → a * (r * b) + p * b ≤ a * p + b * (r * b) → suc (suc k) * (a * (r * b)) ≤ p * a + suc k * (r * b * b)
young_step k a b r p before swap = let scaled : suc k * (a * r) * b ≤ (p + k * (r * b)) * b = mul-le-mul_right b before in omega arith

pub pow-one : (a : ℕ) → a ^ 1 ≡ a
pow-one a = rw (pow-suc a 0) (simp pow-zero (omega arith))

-- (k + 1) a b^k is at most a^(k+1) + k b^(k+1)
pub young : (k a b : ℕ) → suc k * (a * b ^ k) ≤ a ^ suc k + k * b ^ suc k
young zero a b = simp (pow-one, pow-zero) (omega arith)
young (suc k) a b =
    let before : suc k * (a * b ^ k) ≤ a ^ k * a + k * (b ^ k * b) = simp pow-suc at (young k a b) in
    let swap : a * (b ^ k * b) + a ^ k * a * b ≤ a * (a ^ k * a) + b * (b ^ k * b) = simp pow-suc at (exchange a b (suc k)) in
    simp pow-suc (young_step k a b (b ^ k) (a ^ k * a) before swap)

beside_step : (k s y u r c t : ℕ) → suc k * (k * (s + y) * (u * r)) ≤ c * t * (k * (s + y)) + k * (u * r * (suc k * s)) → k * (u * suc k * (r * y)) ≤ k * (c * (t * (s + y)))
beside_step k s y u r c t h = omega arith

-- one number beside k others of the sum s: (k + 1)^(k+1) s^k y is at most k^k (s + y)^(k+1)
pub one_beside : (k s y : ℕ) → suc k ^ suc k * (s ^ k * y) ≤ k ^ k * (s + y) ^ suc k
one_beside zero s y = simp (pow-one, pow-zero) (omega arith)
one_beside (suc j) s y = beside_some (suc j) s y (omega arith)
  where
    beside_some : (k s y : ℕ) → 0 < k → suc k ^ suc k * (s ^ k * y) ≤ k ^ k * (s + y) ^ suc k
    beside_some k s y some =
        let h : suc k * (k * (s + y) * (suc k ^ k * s ^ k)) ≤ k ^ k * (s + y) ^ k * (k * (s + y)) + k * (suc k ^ k * s ^ k * (suc k * s)) =
        simp (pow-suc, mul-pow) at (young k (k * (s + y)) (suc k * s)) in
        simp pow-suc (le_of_mul-le-mul_left (beside_step k s y (suc k ^ k) (s ^ k) (k ^ k) ((s + y) ^ k) h) some)

core_step : (k q p r a d : ℕ) → 0 < a → r * a ≤ p * d → p ^ k ≤ q * a ^ k → (p + r) ^ k ≤ q * (a + d) ^ k
core_step k q p r a d some below h =
    let base : (p + r) * a ≤ p * (a + d) = omega arith in
    let risen : (p + r) ^ k * a ^ k ≤ p ^ k * (a + d) ^ k = simp mul-pow at (pow-le-pow_left base k) in
    let scaled : p ^ k * (a + d) ^ k ≤ q * a ^ k * (a + d) ^ k = mul-le-mul_right ((a + d) ^ k) h in
    let pos : 1 ≤ a ^ k = one-le-pow k a some in
    let joined : (p + r) ^ k * a ^ k ≤ q * (a + d) ^ k * a ^ k = omega arith in
    le_of_mul-le-mul_right joined pos

-- what holds of two numbers beside two others holds of their sums
pub powers_add : (k q p r a d : ℕ) → p ^ k ≤ q * a ^ k → r ^ k ≤ q * d ^ k → (p + r) ^ k ≤ q * (a + d) ^ k
powers_add zero q p r a d h g = simp pow-zero (let one : 1 ≤ q * 1 = simp pow-zero at h in omega arith)
powers_add (suc k) q p r zero d h g =
    let none : p ≡ 0 = zero_from_pow p (suc k) (let z : p ^ suc k ≤ q * (zero ^ k * zero) = rw (pow-suc zero k) at h in omega arith) in
    rw none (simp zero-add g)
powers_add (suc k) q p r (suc a) zero h g =
    let none : r ≡ 0 = zero_from_pow r (suc k) (let z : r ^ suc k ≤ q * (zero ^ k * zero) = rw (pow-suc zero k) at g in omega arith) in
    rw none (simp add-zero h)
powers_add (suc k) q p r (suc a) (suc d) h g =
    ⊎_elim
    (λ less. rw (add_comm p r, add_comm (suc a) (suc d)) (core_step (suc k) q r p (suc d) (suc a) (omega arith) (omega arith) g))
    (λ more. core_step (suc k) q p r (suc a) (suc d) (omega arith) more h)
    (cases_lt (p * suc d) (r * suc a))
