-- Laws of products over lists.
use Rattle.std.proofs.Common.{◌≡◌, ℕ, zero, suc, ◌*◌, ◌^◌, ◌≤◌, List, [], ◌∷◌, ◌++◌, replicate, map, arith, ap, refl}
use Rattle.std.proofs.Math.Nat.{mul-le-mul, pow-suc, pow-zero}
use Rattle.std.proofs.Math.ListN.{replicate}
use Rattle.uniform_cover.specs.Products.{product_by}

pub product_by_mono : {X : Type 0} (f g : X → ℕ) (xs : List X) → ((x : X) → f x ≤ g x) → product_by f xs ≤ product_by g xs
product_by_mono f g [] le = omega arith
product_by_mono f g (x ∷ xs) le = mul-le-mul (le x) (product_by_mono f g xs le)

pub product_by-append : {X : Type 0} (f : X → ℕ) (xs ys : List X) → product_by f (xs ++ ys) ≡ product_by f xs * product_by f ys
product_by-append f [] ys = omega arith
product_by-append f (x ∷ xs) ys = let rest : product_by f (xs ++ ys) ≡ product_by f xs * product_by f ys = product_by-append f xs ys in rw rest (omega arith)

pub product_by-replicate : {X : Type 0} (f : X → ℕ) (n : ℕ) (x : X) → product_by f (replicate n x) ≡ f x ^ n
product_by-replicate f zero x = simp pow-zero
product_by-replicate f (suc n) x = let rest : product_by f (replicate n x) ≡ f x ^ n = product_by-replicate f n x in rw (rest, pow-suc) (omega arith)

pub product_by-map : {X Y : Type 0} (f : Y → ℕ) (g : X → Y) (xs : List X) → product_by f (map g xs) ≡ product_by (λ x. f (g x)) xs
product_by-map f g [] = refl
product_by-map f g (x ∷ xs) = ap (λ n. f (g x) * n) (product_by-map f g xs)
