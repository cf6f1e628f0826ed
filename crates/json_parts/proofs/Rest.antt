-- The rest of a list, one member later.
use Rattle.std.proofs.Common.{◌≡◌, refl, Bool, true, false, ℕ, ◌+◌, ◌<◌, ◌≤◌, List, [], ◌∷◌, ◌++◌, length, map, drop, get_or, append_assoc, append-nil, subst, sym, ◌∙◌, ap}
use Rattle.std.specs.List.{AllByRecursion}
use Rattle.std.proofs.lemmas.List.{map-append, drop_all}
use Rattle.base_laws.proofs.Lists.{rest_at}
use Rattle.serde_json.specs.Data.{Data}
use Rattle.json_parts.specs.Related.{AreAll, AreSaid, Link}
use Rattle.serde_json.specs.View.{view}
use Rattle.serde_json.specs.declared.value.Value.{Value}

-- one value more
pub one-more : {X A : Type 0} (f : A → Data) (g : X → A) (xs : List X) (i : ℕ) (x : X) (old new : List Value) (value : Value) (all : List Data) → i < length xs → x ≡ get_or xs i x → new ≡ old ++ value ∷ [] → view value ≡ f (g x)
    → map view old ++ map f (map g (drop i xs)) ≡ all → map view new ++ map f (map g (drop (i + 1) xs)) ≡ all
one-more f g xs i x old new value all inside is pushed shown whole =
    ap (λ (l : List Value). map view l ++ map f (map g (drop (i + 1) xs))) pushed
    ∙ ap (λ (l : List Data). l ++ map f (map g (drop (i + 1) xs))) (map-append view old (value ∷ []))
    ∙ append_assoc (map view old) (view value ∷ []) (map f (map g (drop (i + 1) xs)))
    ∙ ap (λ (d : Data). map view old ++ (d ∷ map f (map g (drop (i + 1) xs)))) shown
    ∙ ap (λ l. map view old ++ map f (map g l)) (sym (rest_at xs i x inside is)) ∙ whole

-- no more
pub all-done : {X A : Type 0} (f : A → Data) (g : X → A) (xs : List X) (i : ℕ) (old : List Value) (all : List Data) → length xs ≤ i → map view old ++ map f (map g (drop i xs)) ≡ all → map view old ≡ all
all-done f g xs i old all e whole =
    sym (append-nil (map view old)) ∙ ap (λ l. map view old ++ map f (map g l)) (sym (drop_all i xs e)) ∙ whole

-- ---- what holds of all that is written

-- a value that is read back, and says what was written
pub record IsWritten {A X : Type 0} (IsBack : A → Type 0) (said : X → A) (Is : A → X → Type 0) (x : X) : Type 0 where
  pub read : IsBack (said x)
  pub is : Is (said x) x

pub written-read : {A X : Type 0} (IsBack : A → Type 0) (said : X → A) (Is : A → X → Type 0) (xs : List X) → AllByRecursion (IsWritten IsBack said Is) xs → AllByRecursion IsBack (map said xs)
written-read IsBack said Is [] h = tt
written-read IsBack said Is (x ∷ xs) h = (h.0.read, written-read IsBack said Is xs h.1)

pub written-all : {A X : Type 0} (IsBack : A → Type 0) (said : X → A) (Is : A → X → Type 0) (xs : List X) → AllByRecursion (IsWritten IsBack said Is) xs → AreAll Is (map said xs) xs
written-all IsBack said Is [] h = tt
written-all IsBack said Is (x ∷ xs) h = (h.0.is, written-all IsBack said Is xs h.1)

pub written-said : {A X : Type 0} (link : Link A X) (IsBack : A → Type 0) (xs : List X) → AllByRecursion (IsWritten IsBack link.said link.Is) xs → AreSaid link.is_plain link.all_said link.Is (link.all_said xs) xs
written-said {A = A} link IsBack xs h = by_kind link.is_plain where
  by_kind : (plain : Bool) → AreSaid plain link.all_said link.Is (link.all_said xs) xs
  by_kind true = refl
  by_kind false = subst (λ (all : List A). AreAll link.Is all xs) (sym (link.each_said xs)) (written-all IsBack link.said link.Is xs h)

-- nothing is left
pub all-none : {X : Type 0} (P : X → Type 0) (xs : List X) (i : ℕ) → length xs ≤ i → AllByRecursion P (drop i xs)
all-none P xs i done = subst (AllByRecursion P) (sym (drop_all i xs done)) tt
