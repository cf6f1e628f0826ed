-- Pieces written one after another.
use Rattle.std.proofs.Common.{◌≡◌, sym, ◌∙◌, ap, ℕ, ◌+◌, ◌<◌, List, ◌∷◌, ◌++◌, length, get_or, drop, append_assoc}
use Rattle.std.specs.Prelude.{flat_map}
use Rattle.std.proofs.lemmas.List.{drop_more}

-- one piece more of those that are left
pub one-more : {X : Type 0} (f : X → List ℕ) (text new start : List ℕ) (xs : List X) (i : ℕ) (x : X) → i < length xs → x ≡ get_or xs i x
    → new ≡ text ++ f x → text ++ flat_map f (drop i xs) ≡ start → new ++ flat_map f (drop (i + 1) xs) ≡ start
one-more f text new start xs i x below is written h =
    ap (λ (t : List ℕ). t ++ flat_map f (drop (i + 1) xs)) written
    ∙ append_assoc text (f x) (flat_map f (drop (i + 1) xs))
    ∙ ap (λ (l : List _). text ++ flat_map f l) (sym (drop_more xs i x below ∙ ap (λ y. y ∷ drop (i + 1) xs) (sym is)))
    ∙ h
