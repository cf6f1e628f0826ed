-- The names of members, in their order.
use Rattle.std.proofs.Common.{◌≡◌, ℕ, suc, List, [], ◌∷◌, length, map, Bor, refl, ap, arith}

abbrev pub first_of : {A : Type 0} → A → List A → A
first_of other [] = other
first_of other (x ∷ xs) = x

abbrev pub more_of : {A : Type 0} → List A → List A
more_of [] = []
more_of (x ∷ xs) = xs

abbrev pub names_of : List (Bor (List ℕ)) → List (List ℕ)
names_of names = map (λ name. name.now) names

pub no-names : (names : List (List ℕ)) → length names ≡ 0 → [] ≡ names
no-names [] none = refl
no-names (name ∷ names) none = absurd (omega (arith, none))

pub one-more-name : (count : ℕ) (rest : List (List ℕ) → List (List ℕ)) → ((names : List (List ℕ)) → length names ≡ count → rest names ≡ names)
    → (names : List (List ℕ)) → length names ≡ suc count → (first_of [] names ∷ rest (more_of names)) ≡ names
one-more-name count rest same [] some = absurd (omega (arith, some))
one-more-name count rest same (name ∷ names) some = ap (λ (more : List (List ℕ)). name ∷ more) (same names (omega (arith, some)))
