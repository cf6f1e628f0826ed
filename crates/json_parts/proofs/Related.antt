-- Lists whose members are related, one by one.
use Rattle.std.proofs.Common.{◌≡◌, refl, sym, ◌∙◌, ap, suc, List, [], ◌∷◌, length, map, Bool, true, false}
use Rattle.std.proofs.lemmas.List.{length-map}
use Rattle.std.specs.List.{AllByRecursion}
use Rattle.json_parts.specs.Related.{AreAll, AreSaid, Link}

-- what holds of each that is written holds of each that was read
pub all_related : {A B X : Type 0} (R : A → X → Type 0) (claim : B → X) (P : A → Type 0) (Q : B → Type 0) → ((a : A) (b : B) → R a (claim b) → P a → Q b)
    → (written : List A) (bs : List B) → AreAll R written (map claim bs) → AllByRecursion P written → AllByRecursion Q bs
all_related R claim P Q each_one [] [] are all = tt
all_related R claim P Q each_one [] (b ∷ bs) are all = absurd are
all_related R claim P Q each_one (a ∷ written) [] are all = absurd are
all_related R claim P Q each_one (a ∷ written) (b ∷ bs) are all = (each_one a b are.0 all.0, all_related R claim P Q each_one written bs are.1 all.1)

-- there are as many
pub as_many : {A X : Type 0} (R : A → X → Type 0) (written : List A) (xs : List X) → AreAll R written xs → length xs ≡ length written
as_many R [] [] are = refl
as_many R [] (x ∷ xs) are = absurd are
as_many R (a ∷ written) [] are = absurd are
as_many R (a ∷ written) (x ∷ xs) are = ap suc (as_many R written xs are.1)

said-many : {A X : Type 0} (plain : Bool) (all_said : List X → List A) (Is : A → X → Type 0) → ((xs : List X) → length (all_said xs) ≡ length xs) → (said : List A) (all : List X)
    → AreSaid plain all_said Is said all → length said ≡ length all
said-many true all_said Is each said all are = ap length are ∙ each all
said-many false all_said Is each said all are = sym (as_many Is said all are)

pub many : {A X : Type 0} (link : Link A X) (said : List A) (all : List X) → AreSaid link.is_plain link.all_said link.Is said all → length said ≡ length all
many link said all are = said-many link.is_plain link.all_said link.Is (λ xs. ap length (link.each_said xs) ∙ length-map xs link.said) said all are

-- each stands in a relation to what is told of the other
pub all-mapped : {A B X : Type 0} (R : A → X → Type 0) (f : B → X) (written : List A) (bs : List B) → AreAll (λ a b. R a (f b)) written bs → AreAll R written (map f bs)
all-mapped R f [] [] are = tt
all-mapped R f [] (b ∷ bs) are = absurd are
all-mapped R f (a ∷ written) [] are = absurd are
all-mapped R f (a ∷ written) (b ∷ bs) are = (are.0, all-mapped R f written bs are.1)

-- what is related to one list is one list
pub all-one : {A X : Type 0} (R : A → X → Type 0) → ((a : A) (x y : X) → R a x → R a y → x ≡ y) → (written : List A) (xs ys : List X) → AreAll R written xs → AreAll R written ys → xs ≡ ys
all-one R one [] [] [] h g = refl
all-one R one [] [] (y ∷ ys) h g = absurd g
all-one R one [] (x ∷ xs) ys h g = absurd h
all-one R one (a ∷ written) [] ys h g = absurd h
all-one R one (a ∷ written) (x ∷ xs) [] h g = absurd g
all-one R one (a ∷ written) (x ∷ xs) (y ∷ ys) h g = let first = one a x y h.0 g.0 in let rest = all-one R one written xs ys h.1 g.1 in cc

-- what holds of what is said of each holds so of each
pub each-of : {A X : Type 0} (of : X → A) (P : A → Type 0) (xs : List X) → AllByRecursion P (map of xs) → AllByRecursion (λ (x : X). P (of x)) xs
each-of of P [] all = tt
each-of of P (x ∷ xs) all = (all.0, each-of of P xs all.1)
