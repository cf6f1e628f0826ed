-- Lists whose members differ from each other, and what holds of each member.
use Rattle.std.proofs.Common.{◌≡◌, ℕ, zero, suc, List, [], ◌∷◌, ◌++◌, map, arith}
use Rattle.std.specs.Prelude.{ℤ, pos, ◌+ℤ◌, ◌<ℤ◌}
use Rattle.std.specs.List.{AllByRecursion}
use Rattle.std.proofs.lemmas.Int.{ints}
use Rattle.base_laws.proofs.Lists.{All-append, All-weaken, All-map}
use Rattle.iolb_model.specs.Execution.{rising}

-- no two members are equal
abbrev pub Differ : {A : Type 0} → List A → Type 0
Differ [] = Unit {0}
Differ (x ∷ xs) = AllByRecursion (λ y. x ≡ y → ⊥) xs × Differ xs

pub Differ-append : {A : Type 0} (xs ys : List A) → Differ xs → Differ ys → AllByRecursion (λ x. AllByRecursion (λ y. x ≡ y → ⊥) ys) xs → Differ (xs ++ ys)
Differ-append [] ys h k apart = k
Differ-append (x ∷ xs) ys h k apart = (All-append (λ y. x ≡ y → ⊥) xs ys h.0 apart.0, Differ-append xs ys h.1 k apart.1)

pub Differ-map : {A B : Type 0} (f : A → B) → ((x y : A) → f x ≡ f y → x ≡ y) → (xs : List A) → Differ xs → Differ (map f xs)
Differ-map f injective [] h = tt
Differ-map f injective (x ∷ xs) h =
    (All-map (λ w. f x ≡ w → ⊥) f xs (All-weaken (λ y. x ≡ y → ⊥) (λ y. f x ≡ f y → ⊥) xs (λ y apart e. apart (injective x y e)) h.0), Differ-map f injective xs h.1)

-- numbers that rise from a first are not below it
rising_above : (low first : ℤ) (count : ℕ) → low <ℤ first → AllByRecursion (λ (y : ℤ). low ≡ y → ⊥) (rising first count)
rising_above low first zero h = tt
rising_above low first (suc count) h = (below low first h, rising_above low (first +ℤ pos 1) count (next low first h)) where
  below : (a b : ℤ) → a <ℤ b → a ≡ b → ⊥
  below a b l e = omega (arith, ints)

  next : (a b : ℤ) → a <ℤ b → a <ℤ (b +ℤ pos 1)
  next a b l = omega (arith, ints)

pub Differ-rising : (first : ℤ) (count : ℕ) → Differ (rising first count)
Differ-rising first zero = tt
Differ-rising first (suc count) = (rising_above first (first +ℤ pos 1) count (more first), Differ-rising (first +ℤ pos 1) count) where
  more : (a : ℤ) → a <ℤ (a +ℤ pos 1)
  more a = omega (arith, ints)

pub same_head : (a b : ℤ) (xs ys : List ℤ) → a ∷ xs ≡ b ∷ ys → a ≡ b
same_head a b xs ys e = cc

pub same_tail : (a : ℤ) (xs ys : List ℤ) → a ∷ xs ≡ a ∷ ys → xs ≡ ys
same_tail a xs ys e = cc
