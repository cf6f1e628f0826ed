-- Sums of products along two lists.
use Rattle.std.proofs.Common.{◌≡◌, ℕ, ◌+◌, ◌<◌, List, ◌∷◌, length, get_or, drop, arith, sym, ◌∙◌, ap}
use Rattle.std.proofs.Math.IntN.{ℤ, ◌+ℤ◌, ◌*ℤ◌}
use Rattle.std.proofs.lemmas.List.{drop_more}
use Rattle.std.proofs.lemmas.Int.{ints}
use Rattle.iolb_model.specs.Form.{dot}

-- the sum of products from a place on: the product there, and the sum from the next place on
pub dot-drop : (xs ys : List ℤ) (k : ℕ) (x y d : ℤ) → k < length xs → k < length ys → x ≡ get_or xs k x → y ≡ get_or ys k d
    → dot (drop k xs) (drop k ys) ≡ (x *ℤ y) +ℤ dot (drop (k + 1) xs) (drop (k + 1) ys)
dot-drop xs ys k x y d p q e f =
    ap (λ (zs : List ℤ). dot zs (drop k ys)) (drop_more xs k x p)
    ∙ ap (λ (zs : List ℤ). dot (get_or xs k x ∷ drop (k + 1) xs) zs) (drop_more ys k d q)
    ∙ ap (λ (z : ℤ). (z *ℤ get_or ys k d) +ℤ dot (drop (k + 1) xs) (drop (k + 1) ys)) (sym e)
    ∙ ap (λ (z : ℤ). (x *ℤ z) +ℤ dot (drop (k + 1) xs) (drop (k + 1) ys)) (sym f)

-- one product more in a running sum of products
pub dot-step : (xs ys : List ℤ) (k : ℕ) (sum total x y d z : ℤ) → k < length xs → k < length ys → x ≡ get_or xs k x → y ≡ get_or ys k d
    → z ≡ sum +ℤ (x *ℤ y) → (sum +ℤ dot (drop k xs) (drop k ys)) ≡ total → (z +ℤ dot (drop (k + 1) xs) (drop (k + 1) ys)) ≡ total
dot-step xs ys k sum total x y d z p q e f is h =
    let step : dot (drop k xs) (drop k ys) ≡ (x *ℤ y) +ℤ dot (drop (k + 1) xs) (drop (k + 1) ys) = dot-drop xs ys k x y d p q e f
    in omega (arith, ints)
