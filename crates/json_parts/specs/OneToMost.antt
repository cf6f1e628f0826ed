-- Lists that have a member.
use Rattle.std.specs.Prelude.{◌≡◌, ℕ, ◌≤◌, ◌==◌, List, [], ◌∷◌, length, Bool, true, not}
use Rattle.std.proofs.Common.{arith}
use Rattle.std.specs.List.{AllByRecursion}
use Rattle.json_parts.specs.Shape.{Shape, few_shape, tested_shape}

abbrev pub has_some : {A : Type 0} → List A → Bool
has_some xs = not (length xs == 0)

pub some-counted : {A : Type 0} (xs : List A) → has_some xs ≡ true → 1 ≤ length xs
some-counted [] is = absurd cc
some-counted (x ∷ xs) is = omega arith

-- one at least and so many at most, each within its limits
pub record AreOneToMost {A : Type 0} (most : ℕ) (IsWithin : A → Type 0) (xs : List A) : Type 0 where
  pub all : AllByRecursion IsWithin xs
  pub few : length xs ≤ most
  pub some : 1 ≤ length xs

-- a list of one at least and so many at most; an empty one is at fault
abbrev pub one_to_most_shape : {A : Type 0} → ℕ → Shape A → Shape (List A)
one_to_most_shape most shape =
    tested_shape (few_shape most shape) has_some (AreOneToMost most shape.IsWithin) (λ xs small is. record { all = small.0; few = small.1; some = some-counted xs is })
