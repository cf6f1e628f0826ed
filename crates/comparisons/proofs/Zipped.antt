-- Lists of which each element stands beside one of another list.
use Rattle.std.proofs.Common.{◌≡◌, subst, sym, ap, ◌∙◌, ℕ, ◌+◌, ◌<◌, List, [], ◌∷◌, ◌++◌, length, get_or, take}
use Rattle.std.specs.List.{AllZip}
use Rattle.std.proofs.lemmas.List.{take_more}

-- one more of each
zip-push : {A B : Type 0} (R : A → B → Type 0) (xs : List A) (ys : List B) (x : A) (y : B) → AllZip R xs ys → R x y → AllZip R (xs ++ x ∷ []) (ys ++ y ∷ [])
zip-push R [] [] x y all one = (one, tt)
zip-push R [] (z ∷ ys) x y all one = absurd all
zip-push R (w ∷ xs) [] x y all one = absurd all
zip-push R (w ∷ xs) (z ∷ ys) x y all one = (all.0, zip-push R xs ys x y all.1 one)

-- a loop's step over the first list
pub zip_more : {A B : Type 0} (R : A → B → Type 0) (xs : List A) (ys : List B) (i : ℕ) (x : A) (y : B) → i < length xs → x ≡ get_or xs i x → AllZip R (take i xs) ys → R x y
    → AllZip R (take (i + 1) xs) (ys ++ y ∷ [])
zip_more {A} {B} R xs ys i x y below is all one =
    subst (λ (front : List A). AllZip R front (ys ++ y ∷ [])) (sym (take_more xs i x below ∙ ap (λ e. take i xs ++ e ∷ []) (sym is))) (zip-push R (take i xs) ys x y all one)
