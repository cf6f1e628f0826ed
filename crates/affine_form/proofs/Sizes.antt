-- Sizes of whole numbers: of sums and of products.
use Rattle.std.proofs.Common.{◌≡◌, ℕ, ◌+◌, ◌*◌, ◌<◌, ◌≤◌, ◌^◌, arith, add-mul, sym, ap, ◌∙◌, FitsSigned, to_z, of_z, mul-le-mul}
use Rattle.std.proofs.Math.IntN.{ℤ, pos, negsuc, ◌+ℤ◌, ◌*ℤ◌}
use Rattle.std.specs.Prelude.{unsigned_abs}
use Rattle.std.proofs.lemmas.Int.{ints, to_z-of_z, unsigned_abs-mul, fits_signed_from_abs}
use mir.Syntax.{w32, w128}

-- a sum is no larger than its parts together
pub size-add : (x y : ℤ) → unsigned_abs (x +ℤ y) ≤ unsigned_abs x + unsigned_abs y
size-add x y = omega (arith, ints)

-- a product of numbers below two limits is below the limits' product
pub product-below : (x y : ℤ) (m n : ℕ) → unsigned_abs x < m → unsigned_abs y < n → unsigned_abs x * unsigned_abs y ≤ m * n
product-below x y m n p q = mul-le-mul (omega arith) (omega arith)

-- a small number is what its bits say
pub small-bits : (x : ℤ) (m : ℕ) → unsigned_abs x < m → m ≤ 2 ^ 127 → to_z w128 (of_z w128 x) ≡ x
small-bits x m p q = to_z-of_z w128 x (fits_signed_from_abs w128 x (omega arith))

-- a running sum of products of numbers below two limits
pub sum-step : (sum z x y : ℤ) (start k m n : ℕ) → z ≡ sum +ℤ (x *ℤ y) → unsigned_abs x < m → unsigned_abs y < n
    → unsigned_abs sum ≤ start + k * (m * n) → unsigned_abs z ≤ start + (k + 1) * (m * n)
sum-step sum z x y start k m n is p q h =
    let product = product-below x y m n p q in
    let whole = size-add sum (x *ℤ y) in
    rw is (omega (arith, unsigned_abs-mul x y, add-mul k 1 (m * n)))

-- a product more fits beside a running sum of products
pub product-room : (sum x y : ℤ) (k m n : ℕ) → unsigned_abs sum ≤ 0 + k * (m * n) → unsigned_abs x < m → unsigned_abs y < n
    → (k + 1) * (m * n) < 2 ^ 127 → unsigned_abs sum + unsigned_abs x * unsigned_abs y < 2 ^ 127
product-room sum x y k m n h p q room =
    let product = product-below x y m n p q in omega (arith, add-mul k 1 (m * n))

-- numbers with the same bits are the same
pub same-bits : (x y : ℤ) → FitsSigned w128 x → FitsSigned w128 y → of_z w128 x ≡ of_z w128 y → x ≡ y
same-bits x y p q e = sym (to_z-of_z w128 x p) ∙ ap (to_z w128) e ∙ to_z-of_z w128 y q

-- a number of 32 bits is small
pub fits32-small : (x : ℤ) → FitsSigned w32 x → unsigned_abs x < 2 ^ 32
fits32-small (pos n) p = omega (arith, p.sfits)
fits32-small (negsuc n) p = omega (arith, p.sfits)
