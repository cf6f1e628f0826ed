-- Members of lists, by recursion on the list.
use Rattle.std.proofs.Common.{◌≡◌, refl, sym, ◌∙◌, ap, subst, inl, inr, ℕ, zero, suc, ◌+◌, Bool, true, false, cond, not, List, [], ◌∷◌, ◌++◌, map, arith}
use Rattle.std.specs.Prelude.{◌⊎◌, Option, Some, None, slice_get, Contains, filter, filter_map, flat_map}
use Rattle.std.specs.List.{enumerate_from, cons_option}
use Rattle.iolb_model.specs.Graph.{distinct}

abbrev pub Member : {A : Type 0} → A → List A → Type 0
Member x [] = ⊥
Member x (y ∷ ys) = (x ≡ y) ⊎ Member x ys

pub Member-append_left : {A : Type 0} (x : A) (xs ys : List A) → Member x xs → Member x (xs ++ ys)
Member-append_left x [] ys m = absurd m
Member-append_left x (y ∷ xs) ys (inl e) = inl e
Member-append_left x (y ∷ xs) ys (inr m) = inr (Member-append_left x xs ys m)

pub Member-append_right : {A : Type 0} (x : A) (xs ys : List A) → Member x ys → Member x (xs ++ ys)
Member-append_right x [] ys m = m
Member-append_right x (y ∷ xs) ys m = inr (Member-append_right x xs ys m)

pub Member-map : {A B : Type 0} (f : A → B) (x : A) (xs : List A) → Member x xs → Member (f x) (map f xs)
Member-map f x [] m = absurd m
Member-map f x (y ∷ xs) (inl e) = inl (ap f e)
Member-map f x (y ∷ xs) (inr m) = inr (Member-map f x xs m)

pub Member-flat_map : {A B : Type 0} (f : A → List B) (x : A) (xs : List A) (y : B) → Member x xs → Member y (f x) → Member y (flat_map f xs)
Member-flat_map f x [] y m n = absurd m
Member-flat_map f x (z ∷ xs) y (inl e) n = Member-append_left y (f z) (flat_map f xs) (subst (λ w. Member y (f w)) e n)
Member-flat_map f x (z ∷ xs) y (inr m) n = Member-append_right y (f z) (flat_map f xs) (Member-flat_map f x xs y m n)

Member-cons_option : {B : Type 0} (y : B) (o : Option B) (ys : List B) → Member y ys → Member y (cons_option o ys)
Member-cons_option y None ys m = m
Member-cons_option y (Some w) ys m = inr m

pub Member-filter_map : {A B : Type 0} (h : A → Option B) (x : A) (xs : List A) (y : B) → Member x xs → h x ≡ Some y → Member y (filter_map h xs)
Member-filter_map h x [] y m e = absurd m
Member-filter_map h x (z ∷ xs) y (inl w) e = subst (λ o. Member y (cons_option o (filter_map h xs))) (sym e ∙ ap h w) (inl refl)
Member-filter_map h x (z ∷ xs) y (inr m) e = Member-cons_option y (h z) (filter_map h xs) (Member-filter_map h x xs y m e)

Member-cond : {A : Type 0} (x : A) (b : Bool) (y : A) (ys : List A) → Member x ys → Member x (cond b (y ∷ ys) ys)
Member-cond x true y ys m = inr m
Member-cond x false y ys m = m

pub Member-filter : {A : Type 0} (p : A → Bool) (x : A) (xs : List A) → Member x xs → p x ≡ true → Member x (filter p xs)
Member-filter p x [] m e = absurd m
Member-filter p x (y ∷ xs) (inl w) e = subst (λ b. Member x (cond b (y ∷ filter p xs) (filter p xs))) (sym e ∙ ap p w) (inl w)
Member-filter p x (y ∷ xs) (inr m) e = Member-cond x (p y) y (filter p xs) (Member-filter p x xs m e)

Member-first : {A : Type 0} (same : A → A → Bool) → ((a b : A) → same a b ≡ true → a ≡ b) → (x y : A) (ys : List A) → Member x ys
    → (b : Bool) → b ≡ same y x → Member x (y ∷ filter (λ z. not (same y z)) ys)
Member-first same equal x y ys m true e = inl (sym (equal y x (sym e)))
Member-first same equal x y ys m false e = inr (Member-filter (λ z. not (same y z)) x ys m (sym (ap not e)))

-- to take each member once loses none
pub Member-distinct : {A : Type 0} (same : A → A → Bool) → ((a b : A) → same a b ≡ true → a ≡ b) → (x : A) (xs : List A) → Member x xs → Member x (distinct same xs)
Member-distinct same equal x [] m = absurd m
Member-distinct same equal x (y ∷ xs) (inl e) = inl e
Member-distinct same equal x (y ∷ xs) (inr m) = Member-first same equal x y (distinct same xs) (Member-distinct same equal x xs m) (same y x) refl

pub Contains-member : {A : Type 0} (x : A) (xs : List A) → Member x xs → Contains xs x
Contains-member x [] m = absurd m
Contains-member x (y ∷ xs) (inl e) = (zero, omega arith, sym e)
Contains-member x (y ∷ xs) (inr m) = let c : Contains xs x = Contains-member x xs m in (suc c.0, omega (arith, c.1), c.2)

-- what stands at a place is a member
pub Member-slice_get : {A : Type 0} (xs : List A) (n : ℕ) (x : A) → slice_get xs n ≡ Some x → Member x xs
Member-slice_get [] n x e = absurd (cc)
Member-slice_get (y ∷ xs) zero x e = inl cc
Member-slice_get (y ∷ xs) (suc n) x e = inr (Member-slice_get xs n x e)

place_and : {A : Type 0} (a b : ℕ) (x y : A) → b ≡ a → x ≡ y → ◌≡◌ {A = ℕ × A} (b, x) (a, y)
place_and a b x y e w = cc

-- and has its place, counted from the first number
pub Member-enumerate : {A : Type 0} (first : ℕ) (xs : List A) (n : ℕ) (x : A) → slice_get xs n ≡ Some x → Member (first + n, x) (enumerate_from first xs)
Member-enumerate first [] n x e = absurd (cc)
Member-enumerate first (y ∷ xs) zero x e = inl (place_and first (first + 0) x y (omega arith) cc)
Member-enumerate first (y ∷ xs) (suc n) x e = inr (subst (λ (k : ℕ). Member (k, x) (enumerate_from (first + 1) xs)) (omega arith) (Member-enumerate (first + 1) xs n x e))
