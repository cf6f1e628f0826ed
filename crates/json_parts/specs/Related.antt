-- What was read, beside what the text says.
use Rattle.std.specs.Prelude.{◌≡◌, ⊤, List, [], ◌∷◌, map, Bool, true, false, Option, None, Some, option_map, Box, Vec}
use Rattle.std.proofs.Common.{refl, ap}
use Rattle.std.specs.Box.{box_value}
use Rattle.std.specs.Global.{Global}
use Rattle.json_parts.specs.Truths.{never}

-- each of the second list stands in a relation to that of the first in its place, and there are as many
abbrev pub AreAll : {A X : Type 0} → (A → X → Type 0) → List A → List X → Type 0
AreAll R [] [] = ⊤
AreAll R [] (x ∷ xs) = ⊥
AreAll R (a ∷ more) [] = ⊥
AreAll R (a ∷ more) (x ∷ xs) = R a x × AreAll R more xs

-- the same of a value that may be missing
abbrev pub IsOption : {A X : Type 0} → (A → X → Type 0) → Option A → Option X → Type 0
IsOption R None None = ⊤
IsOption R None (Some x) = ⊥
IsOption R (Some a) None = ⊥
IsOption R (Some a) (Some x) = R a x

pub all_same : {A : Type 0} (xs : List A) → xs ≡ map (λ a. a) xs
all_same [] = refl
all_same (x ∷ xs) = ap (λ l. x ∷ l) (all_same xs)

-- How a value that the code holds shows what a text says. It is plain where the value says just that; a polynomial isn't,
-- which is held without common factors.
pub record Link (A X : Type 0) : Type 1 where
  -- what is written of a value
  pub said : X → A
  -- the same of each value of a list
  pub all_said : List X → List A
  pub each_said : (xs : List X) → all_said xs ≡ map said xs
  -- whether a value is what was said
  pub Is : A → X → Type 0
  pub is_plain : Bool
  pub plain : is_plain ≡ true → (a : A) (x : X) → Is a x → a ≡ said x

-- a value that is what is said
abbrev pub same_link : {A : Type 0} → Link A A
same_link = record { said = λ a. a; all_said = λ all. all; each_said = all_same; Is = λ a x. a ≡ x; is_plain = true; plain = λ _ a x is. is }

-- a value that says just this
abbrev pub plain_link : {A X : Type 0} → (X → A) → Link A X
plain_link said = record { said = said; all_said = map said; each_said = λ xs. refl; Is = λ a x. a ≡ said x; is_plain = true; plain = λ _ a x is. is }

-- a value that stands in another relation to what is said
abbrev pub other_link : {A X : Type 0} → (X → A) → (A → X → Type 0) → Link A X
other_link said Is = record { said = said; all_said = map said; each_said = λ xs. refl; Is = Is; is_plain = false; plain = λ plain. never plain }

-- the members of a list are plain or they aren't
abbrev pub AreSaid : {A X : Type 0} → Bool → (List X → List A) → (A → X → Type 0) → List A → List X → Type 0
AreSaid true all_said Is all found = all ≡ all_said found
AreSaid false all_said Is all found = AreAll Is all found

abbrev pub IsSaidOption : {A X : Type 0} → Bool → (X → A) → (A → X → Type 0) → Option A → Option X → Type 0
IsSaidOption true said Is one found = one ≡ option_map said found
IsSaidOption false said Is one found = IsOption Is one found

pub all_plain : {A X : Type 0} (plain : Bool) (all_said : List X → List A) (Is : A → X → Type 0) → plain ≡ true → (all : List A) (found : List X) → AreSaid plain all_said Is all found → all ≡ all_said found
all_plain true all_said Is is all found are = are
all_plain false all_said Is is all found are = absurd cc

pub option_plain : {A X : Type 0} (plain : Bool) (said : X → A) (Is : A → X → Type 0) → plain ≡ true → (one : Option A) (found : Option X) → IsSaidOption plain said Is one found → one ≡ option_map said found
option_plain true said Is is one found are = are
option_plain false said Is is one found are = absurd cc

abbrev pub list_link : {A X : Type 0} → Link A X → Link (List A) (Vec X Global)
list_link link = record {
  said = λ all. link.all_said all.items;
  all_said = map (λ all. link.all_said all.items);
  each_said = λ xs. refl;
  Is = λ said_all all. AreSaid link.is_plain link.all_said link.Is said_all all.items;
  is_plain = link.is_plain;
  plain = λ plain said_all all are. all_plain link.is_plain link.all_said link.Is plain said_all all.items are;
}

abbrev pub option_link : {A X : Type 0} → Link A X → Link (Option A) (Option X)
option_link link = record {
  said = option_map link.said;
  all_said = map (option_map link.said);
  each_said = λ xs. refl;
  Is = IsSaidOption link.is_plain link.said link.Is;
  is_plain = link.is_plain;
  plain = λ plain one found is. option_plain link.is_plain link.said link.Is plain one found is;
}

-- the same of a value in a box
abbrev pub box_link : {A X : Type 0} → Link A X → Link A (Box X Global)
box_link link = record {
  said = λ one. link.said (box_value one);
  all_said = map (λ one. link.said (box_value one));
  each_said = λ xs. refl;
  Is = λ said one. link.Is said (box_value one);
  is_plain = link.is_plain;
  plain = λ plain said one is. link.plain plain said (box_value one) is;
}
