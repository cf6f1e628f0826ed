-- What holds of the members of a list that a function gives, and of two lists place by place.
use Rattle.std.proofs.Common.{◌≡◌, sym, subst, ℕ, zero, suc, ◌<◌, List, [], ◌∷◌, length, get_or, map, arith}
use Rattle.std.specs.List.{AllByRecursion, AllZip}

pub all-map : {X Y : Type 0} (f : X → Y) (P : Y → Type 0) (i : ℕ) (xs : List X) (x : X) → i < length xs → x ≡ get_or xs i x → AllByRecursion P (map f xs) → P (f x)
all-map f P i [] x below is h = absurd (omega (arith, below))
all-map f P zero (y ∷ xs) x below is h = subst (λ z. P (f z)) (sym is) h.0
all-map f P (suc i) (y ∷ xs) x below is h = all-map f P i xs x (omega (arith, below)) is h.1

pub zip-weaken : {X Y : Type 0} (P Q : X → Y → Type 0) → ((x : X) (y : Y) → P x y → Q x y) → (xs : List X) (ys : List Y) → AllZip P xs ys → AllZip Q xs ys
zip-weaken P Q f [] [] h = tt
zip-weaken P Q f [] (y ∷ ys) h = absurd h
zip-weaken P Q f (x ∷ xs) [] h = absurd h
zip-weaken P Q f (x ∷ xs) (y ∷ ys) h = (f x y h.0, zip-weaken P Q f xs ys h.1)
