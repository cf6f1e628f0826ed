-- Products over lists of whole numbers, where the product of none is 1.
use Rattle.std.specs.Prelude.{ℕ, ◌*◌, List, [], ◌∷◌}

-- the product of f over a list
abbrev pub product_by : {X : Type 0} → (X → ℕ) → List X → ℕ
product_by f [] = 1
product_by f (x ∷ xs) = f x * product_by f xs

-- the product of a list of numbers
abbrev pub product : List ℕ → ℕ
product xs = product_by (λ x. x) xs
