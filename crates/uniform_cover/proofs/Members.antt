-- Membership of a list by recursion, and where it leads to and from.
use Rattle.std.proofs.Common.{◌≡◌, ℕ, zero, suc, ◌<◌, Bool, true, false, not, cond, ◌||◌, List, [], ◌∷◌, length, get_or, arith, sym, refl, inl, inr, ◌⊎◌, ap, ◌∙◌}
use Rattle.std.proofs.lemmas.Bool.{false≢true, or_left, or_right}
use Rattle.std.specs.List.{Contains, filter, list_any}

-- x is an element of the list
abbrev pub IsIn : {X : Type 0} → X → List X → Type 0
IsIn x [] = ⊥
IsIn x (y ∷ ys) = (x ≡ y) ⊎ IsIn x ys

pub Contains-from_IsIn : {X : Type 0} (x : X) (xs : List X) → IsIn x xs → Contains xs x
Contains-from_IsIn x [] h = absurd h
Contains-from_IsIn x (y ∷ ys) h =
    elim h [
      | inl is ↦ (0, omega arith, sym is)
      | inr more ↦ let r : Contains ys x = Contains-from_IsIn x ys more in (suc r.0, omega arith, r.2)
    ]

pub IsIn-from_Contains : {X : Type 0} (x : X) (xs : List X) → Contains xs x → IsIn x xs
IsIn-from_Contains x xs h = at xs h.0 h.1 h.2
  where
    at : {X : Type 0} {x : X} (xs : List X) (k : ℕ) → k < length xs → get_or xs k x ≡ x → IsIn x xs
    at [] k lt is = absurd (omega arith)
    at (y ∷ ys) zero lt is = inl (sym is)
    at (y ∷ ys) (suc k) lt is = inr (at ys k (omega arith) is)

-- `not b` holds where b leads to nothing
pub not_true : (b : Bool) → (b ≡ true → ⊥) → not b ≡ true
not_true true h = absurd (h refl)
not_true false h = refl

pub true_and_not : (b : Bool) → b ≡ true → not b ≡ true → ⊥
true_and_not true is isn't = false≢true isn't
true_and_not false is isn't = false≢true is

module _ {X : Type 0} (p : X → Bool) where
  from_cond : (x y : X) (ys : List X) (t : Bool) → p y ≡ t → (IsIn x (filter p ys) → IsIn x ys × (p x ≡ true))
      → IsIn x (cond t (y ∷ filter p ys) (filter p ys)) → IsIn x (y ∷ ys) × (p x ≡ true)
  from_cond x y ys true is rest h =
      elim h [ inl same ↦ (inl same, ap p same ∙ is) | inr more ↦ (inr (rest more).0, (rest more).1) ]
  from_cond x y ys false is rest h = (inr (rest h).0, (rest h).1)

  -- what a filter keeps is in the list, and passes
  pub IsIn-from_filter : (x : X) (xs : List X) → IsIn x (filter p xs) → IsIn x xs × (p x ≡ true)
  IsIn-from_filter x [] h = absurd h
  IsIn-from_filter x (y ∷ ys) h = from_cond x y ys (p y) refl (IsIn-from_filter x ys) h

  into_cond : (x y : X) (ys : List X) (t : Bool) → p y ≡ t → p x ≡ true → (IsIn x ys → IsIn x (filter p ys))
      → IsIn x (y ∷ ys) → IsIn x (cond t (y ∷ filter p ys) (filter p ys))
  into_cond x y ys true is passes rest h = elim h [ inl same ↦ inl same | inr more ↦ inr (rest more) ]
  into_cond x y ys false is passes rest h =
      elim h [ inl same ↦ absurd (false≢true (sym is ∙ ap p (sym same) ∙ passes)) | inr more ↦ rest more ]

  -- what passes stays under a filter
  pub IsIn-filter : (x : X) (xs : List X) → IsIn x xs → p x ≡ true → IsIn x (filter p xs)
  IsIn-filter x [] h passes = absurd h
  IsIn-filter x (y ∷ ys) h passes = into_cond x y ys (p y) refl passes (λ r. IsIn-filter x ys r passes) h

  any_cases : (y : X) (ys : List X) (t : Bool) → p y ≡ t → (t || list_any p ys) ≡ true
      → (list_any p ys ≡ true → (x : X) × IsIn x ys × (p x ≡ true)) → (x : X) × IsIn x (y ∷ ys) × (p x ≡ true)
  any_cases y ys true is h rest = (y, inl refl, is)
  any_cases y ys false is h rest = let r : (x : X) × IsIn x ys × (p x ≡ true) = rest h in (r.0, inr r.1, r.2)

  -- an element that passes, where one does
  pub IsIn-from_list_any : (xs : List X) → list_any p xs ≡ true → (x : X) × IsIn x xs × (p x ≡ true)
  IsIn-from_list_any [] h = absurd (false≢true h)
  IsIn-from_list_any (y ∷ ys) h = any_cases y ys (p y) refl h (IsIn-from_list_any ys)

  pub list_any-from_IsIn : (x : X) (xs : List X) → IsIn x xs → p x ≡ true → list_any p xs ≡ true
  list_any-from_IsIn x [] h passes = absurd h
  list_any-from_IsIn x (y ∷ ys) h passes =
      elim h [
        | inl same ↦ or_left (p y) (list_any p ys) (ap p (sym same) ∙ passes)
        | inr more ↦ or_right (p y) (list_any p ys) (list_any-from_IsIn x ys more passes)
      ]
