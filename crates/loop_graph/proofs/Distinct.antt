-- Members that are taken once, where a list grows at its end.
use Rattle.std.proofs.Common.{◌≡◌, refl, sym, ◌∙◌, ap, ℕ, suc, ◌+◌, Bool, true, false, cond, not, List, [], ◌∷◌, ◌++◌, length, nat_eq, arith}
use Rattle.std.specs.Prelude.{◌||◌, filter}
use Rattle.std.specs.List.{list_any, position_or_len}
use Rattle.std.proofs.lemmas.List.{append-nil}
use Rattle.std.proofs.lemmas.List.Elements.{filter-append}
use Rattle.std.proofs.lemmas.Bool.{eqb-true, eq-eqb}
use Rattle.std.proofs.lemmas.Map.Views.{any-filter_same}
use Rattle.iolb_model.specs.Graph.{distinct}

module _ {A : Type 0} (same : A → A → Bool) (equal : (a b : A) → same a b ≡ true → a ≡ b) (self : (a : A) → same a a ≡ true) where
  -- a test that tells members apart, either way round
  pub flips : (a b : A) → same a b ≡ same b a
  flips a b = by (same a b) (same b a) refl refl where
    by : (s t : Bool) → same a b ≡ s → same b a ≡ t → s ≡ t
    by true true e f = refl
    by true false e f = absurd (let yes : same b a ≡ true = ap (same b) (equal a b e) ∙ self b in cc)
    by false true e f = absurd (let yes : same a b ≡ true = ap (same a) (equal b a f) ∙ self a in cc)
    by false false e f = refl

  -- one member more is taken where it wasn't there
  pub distinct-push : (x : A) (xs : List A)
      → distinct same (xs ++ x ∷ []) ≡ cond (list_any (same x) (distinct same xs)) (distinct same xs) (distinct same xs ++ x ∷ [])
  distinct-push x [] = refl
  distinct-push x (y ∷ xs) =
      ap (λ zs. y ∷ filter (λ z. not (same y z)) zs) (distinct-push x xs) ∙ by (same x y) (list_any (same x) (distinct same xs)) refl refl where
        kept : same x y ≡ false → list_any (same x) (filter (λ z. not (same y z)) (distinct same xs)) ≡ list_any (same x) (distinct same xs)
        kept e = any-filter_same (same x) (λ z. not (same y z)) true (λ k t. ap not (ap (same y) (sym (equal x k t)) ∙ flips y x ∙ e)) (distinct same xs)

        last : (c : Bool) → same x y ≡ c → filter (λ z. not (same y z)) (x ∷ []) ≡ cond (not c) (x ∷ []) []
        last c e = ap (λ b. cond (not b) (x ∷ []) []) (flips y x ∙ e)

        pushed : (c : Bool) → same x y ≡ c → filter (λ z. not (same y z)) (distinct same xs ++ x ∷ []) ≡ filter (λ z. not (same y z)) (distinct same xs) ++ cond (not c) (x ∷ []) []
        pushed c e = filter-append (λ z. not (same y z)) (distinct same xs) (x ∷ []) ∙ ap (λ zs. filter (λ z. not (same y z)) (distinct same xs) ++ zs) (last c e)

        by : (c b : Bool) → same x y ≡ c → list_any (same x) (distinct same xs) ≡ b
            → y ∷ filter (λ z. not (same y z)) (cond b (distinct same xs) (distinct same xs ++ x ∷ []))
            ≡ cond (c || list_any (same x) (filter (λ z. not (same y z)) (distinct same xs))) (y ∷ filter (λ z. not (same y z)) (distinct same xs))
            ((y ∷ filter (λ z. not (same y z)) (distinct same xs)) ++ x ∷ [])
        by true true e f = refl
        by true false e f = ap (λ zs. y ∷ zs) (pushed true e ∙ append-nil (filter (λ z. not (same y z)) (distinct same xs)))
        by false true e f =
            sym (ap (λ b. cond b (y ∷ filter (λ z. not (same y z)) (distinct same xs)) ((y ∷ filter (λ z. not (same y z)) (distinct same xs)) ++ x ∷ [])) (kept e ∙ f))
        by false false e f =
            ap (λ zs. y ∷ zs) (pushed false e)
            ∙ sym (ap (λ b. cond b (y ∷ filter (λ z. not (same y z)) (distinct same xs)) ((y ∷ filter (λ z. not (same y z)) (distinct same xs)) ++ x ∷ [])) (kept e ∙ f))

  -- members of a list come before those that follow
  pub distinct-append : (xs ys : List A) → (zs : List A) × (distinct same (xs ++ ys) ≡ distinct same xs ++ zs)
  distinct-append [] ys = (distinct same ys, refl)
  distinct-append (x ∷ xs) ys =
      let rest : (zs : List A) × (distinct same (xs ++ ys) ≡ distinct same xs ++ zs) = distinct-append xs ys in (
        filter (λ z. not (same x z)) rest.0,
        ap (λ zs. x ∷ filter (λ z. not (same x z)) zs) rest.1 ∙ ap (λ zs. x ∷ zs) (filter-append (λ z. not (same x z)) (distinct same xs) rest.0),
      )

-- the place of one that is there stays
pub position-kept : {A : Type 0} (p : A → Bool) (xs ys : List A) → list_any p xs ≡ true → position_or_len p (xs ++ ys) ≡ position_or_len p xs
position-kept p [] ys e = absurd cc
position-kept p (x ∷ xs) ys e = by (p x) e (position-kept p xs ys) where
  by : (b : Bool) → (b || list_any p xs) ≡ true → (list_any p xs ≡ true → position_or_len p (xs ++ ys) ≡ position_or_len p xs)
      → cond (not b) (1 + position_or_len p (xs ++ ys)) 0 ≡ cond (not b) (1 + position_or_len p xs) 0
  by true f h = refl
  by false f h = ap (λ n. 1 + n) (h f)

-- and one that wasn't there stands behind the others
pub position-new : {A : Type 0} (p : A → Bool) (xs : List A) (y : A) → list_any p xs ≡ false → p y ≡ true → position_or_len p (xs ++ y ∷ []) ≡ length xs
position-new p [] y e f = ap (λ b. cond (not b) (1 + 0) 0) f
position-new p (x ∷ xs) y e f = by (p x) e (λ g. position-new p xs y g f) where
  by : (b : Bool) → (b || list_any p xs) ≡ false → (list_any p xs ≡ false → position_or_len p (xs ++ y ∷ []) ≡ length xs)
      → cond (not b) (1 + position_or_len p (xs ++ y ∷ [])) 0 ≡ suc (length xs)
  by true g h = absurd cc
  by false g h = omega (arith, h g)

-- ---- numbers

any-flips : (v : ℕ) (xs : List ℕ) → list_any (λ y. nat_eq y v) xs ≡ list_any (nat_eq v) xs
any-flips v [] = refl
any-flips v (x ∷ xs) = ap (λ (b : Bool). b || list_any (λ y. nat_eq y v) xs) (flips nat_eq eqb-true (λ n. eq-eqb n n refl) x v) ∙ ap (λ (b : Bool). nat_eq v x || b) (any-flips v xs)

-- one number more is taken, if it wasn't there
pub distinct-more : (numbers found more : List ℕ) (v : ℕ) → found ≡ distinct nat_eq numbers → more ≡ cond (list_any (λ y. nat_eq y v) found) found (found ++ v ∷ [])
    → more ≡ distinct nat_eq (numbers ++ v ∷ [])
distinct-more numbers found more v so_far pushed =
    pushed ∙ ap (λ (b : Bool). cond b found (found ++ v ∷ [])) (any-flips v found)
    ∙ ap (λ (l : List ℕ). cond (list_any (nat_eq v) l) l (l ++ v ∷ [])) so_far
    ∙ sym (distinct-push nat_eq eqb-true (λ n. eq-eqb n n refl) v numbers)
