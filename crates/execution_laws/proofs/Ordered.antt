-- Lists in order by a relation: each member before all that follow.
use Rattle.std.proofs.Common.{◌≡◌, refl, sym, ap, subst, inl, inr, ℕ, zero, suc, ◌<◌, List, [], ◌∷◌, ◌++◌, map, arith}
use Rattle.std.specs.Prelude.{◌⊎◌, ⊤, Some, slice_get, flat_map}
use Rattle.std.specs.List.{AllByRecursion}
use Rattle.execution_laws.proofs.Members.{Member, Member-append_left, Member-append_right, Member-slice_get}

abbrev pub IsOrdered : {A : Type 0} → (A → A → Type 0) → List A → Type 0
IsOrdered R [] = ⊤
IsOrdered R (x ∷ xs) = AllByRecursion (R x) xs × IsOrdered R xs

-- what holds of each member holds of every one
pub All-from : {A : Type 0} (P : A → Type 0) (xs : List A) → ((x : A) → Member x xs → P x) → AllByRecursion P xs
All-from P [] h = tt
All-from P (x ∷ xs) h = (h x (inl refl), All-from P xs (λ y m. h y (inr m)))

pub All-member : {A : Type 0} (P : A → Type 0) (xs : List A) (x : A) → AllByRecursion P xs → Member x xs → P x
All-member P [] x h m = absurd m
All-member P (y ∷ ys) x h (inl e) = subst P (sym e) h.0
All-member P (y ∷ ys) x h (inr m) = All-member P ys x h.1 m

-- a member of two lists joined is in one of them
pub Member-append : {A : Type 0} (x : A) (xs ys : List A) → Member x (xs ++ ys) → Member x xs ⊎ Member x ys
Member-append x [] ys m = inr m
Member-append x (y ∷ xs) ys (inl e) = inl (inl e)
Member-append x (y ∷ xs) ys (inr m) = elim (Member-append x xs ys m) [ inl p ↦ inl (inr p) | inr q ↦ inr q ]

-- a member of the images is an image
pub Member-map_from : {A B : Type 0} (f : A → B) (y : B) (xs : List A) → Member y (map f xs) → (x : A) × (Member x xs × (y ≡ f x))
Member-map_from f y [] m = absurd m
Member-map_from f y (x ∷ xs) (inl e) = (x, (inl refl, e))
Member-map_from f y (x ∷ xs) (inr m) = let found = Member-map_from f y xs m in (found.0, (inr found.1.0, found.1.1))

pub Member-flat_map_from : {A B : Type 0} (f : A → List B) (y : B) (xs : List A) → Member y (flat_map f xs) → (x : A) × (Member x xs × Member y (f x))
Member-flat_map_from f y [] m = absurd m
Member-flat_map_from f y (x ∷ xs) m =
    elim (Member-append y (f x) (flat_map f xs) m) [
      | inl p ↦ (x, (inl refl, p))
      | inr q ↦ let found = Member-flat_map_from f y xs q in (found.0, (inr found.1.0, found.1.1))
    ]

-- two lists in order, each member of the first before each of the second
pub Ordered-append : {A : Type 0} (R : A → A → Type 0) (xs ys : List A) → IsOrdered R xs → IsOrdered R ys
    → ((a b : A) → Member a xs → Member b ys → R a b) → IsOrdered R (xs ++ ys)
Ordered-append R [] ys p q cross = q
Ordered-append R (x ∷ xs) ys p q cross = (
  All-from (R x) (xs ++ ys) (λ b m. elim (Member-append b xs ys m) [ inl l ↦ All-member (R x) xs b p.0 l | inr r ↦ cross x b (inl refl) r ]),
  Ordered-append R xs ys p.1 q (λ a b m n. cross a b (inr m) n),
)

pub Ordered-weaken : {A : Type 0} (R S : A → A → Type 0) (xs : List A) → IsOrdered R xs
    → ((a b : A) → Member a xs → Member b xs → R a b → S a b) → IsOrdered S xs
Ordered-weaken R S [] p h = tt
Ordered-weaken R S (x ∷ xs) p h = (
  All-from (S x) xs (λ b m. h x b (inl refl) (inr m) (All-member (R x) xs b p.0 m)),
  Ordered-weaken R S xs p.1 (λ a b m n. h a b (inr m) (inr n)),
)

pub Ordered-map : {A B : Type 0} (R : A → A → Type 0) (S : B → B → Type 0) (f : A → B) (xs : List A) → IsOrdered R xs
    → ((a b : A) → R a b → S (f a) (f b)) → IsOrdered S (map f xs)
Ordered-map R S f [] p h = tt
Ordered-map R S f (x ∷ xs) p h = (
  All-from (S (f x)) (map f xs) (λ b m. let found = Member-map_from f b xs m in subst (S (f x)) (sym found.1.1) (h x found.0 (All-member (R x) xs found.0 p.0 found.1.0))),
  Ordered-map R S f xs p.1 h,
)

pub Ordered-flat_map : {A B : Type 0} (R : A → A → Type 0) (S : B → B → Type 0) (f : A → List B) (xs : List A) → IsOrdered R xs
    → ((a : A) → IsOrdered S (f a)) → ((a b : A) → R a b → (y z : B) → Member y (f a) → Member z (f b) → S y z) → IsOrdered S (flat_map f xs)
Ordered-flat_map R S f [] p each cross = tt
Ordered-flat_map R S f (x ∷ xs) p each cross =
    Ordered-append S (f x) (flat_map f xs) (each x) (Ordered-flat_map R S f xs p.1 each cross)
    (λ y z m n. let found = Member-flat_map_from f z xs n in cross x found.0 (All-member (R x) xs found.0 p.0 found.1.0) y z m found.1.1)

-- the parts of a list in order
pub Ordered-left : {A : Type 0} (R : A → A → Type 0) (xs ys : List A) → IsOrdered R (xs ++ ys) → IsOrdered R xs
Ordered-left R [] ys p = tt
Ordered-left R (x ∷ xs) ys p = (All-from (R x) xs (λ b m. All-member (R x) (xs ++ ys) b p.0 (Member-append_left b xs ys m)), Ordered-left R xs ys p.1)

pub Ordered-right : {A : Type 0} (R : A → A → Type 0) (xs ys : List A) → IsOrdered R (xs ++ ys) → IsOrdered R ys
Ordered-right R [] ys p = p
Ordered-right R (x ∷ xs) ys p = Ordered-right R xs ys p.1

pub Ordered-across : {A : Type 0} (R : A → A → Type 0) (xs ys : List A) → IsOrdered R (xs ++ ys) → (a b : A) → Member a xs → Member b ys → R a b
Ordered-across R [] ys p a b m n = absurd m
Ordered-across R (x ∷ xs) ys p a b (inl e) n = subst (λ z. R z b) (sym e) (All-member (R x) (xs ++ ys) b p.0 (Member-append_right b xs ys n))
Ordered-across R (x ∷ xs) ys p a b (inr m) n = Ordered-across R xs ys p.1 a b m n

-- what stands earlier is before what stands later
pub Ordered-at : {A : Type 0} (R : A → A → Type 0) (xs : List A) (m n : ℕ) (a b : A) → IsOrdered R xs
    → slice_get xs m ≡ Some a → slice_get xs n ≡ Some b → m < n → R a b
Ordered-at R [] m n a b p e f lt = absurd cc
Ordered-at R (x ∷ xs) zero zero a b p e f lt = absurd (omega arith)
Ordered-at R (x ∷ xs) zero (suc n) a b p e f lt =
    let same : x ≡ a = cc in subst (λ z. R z b) same (All-member (R x) xs b p.0 (Member-slice_get xs n b f))
Ordered-at R (x ∷ xs) (suc m) zero a b p e f lt = absurd (omega arith)
Ordered-at R (x ∷ xs) (suc m) (suc n) a b p e f lt = Ordered-at R xs m n a b p.1 e f (omega arith)

-- a member stands at some place
pub Member-place : {A : Type 0} (x : A) (xs : List A) → Member x xs → (n : ℕ) × (slice_get xs n ≡ Some x)
Member-place x [] m = absurd m
Member-place x (y ∷ xs) (inl e) = (zero, ap Some (sym e))
Member-place x (y ∷ xs) (inr m) = let found = Member-place x xs m in (suc found.0, found.1)
