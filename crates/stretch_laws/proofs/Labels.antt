-- Different labels are at most as many as the members of a list that holds them.
use Rattle.std.proofs.Common.{◌≡◌, refl, ◌≤◌, Bool, true, false, cond, List, [], ◌∷◌, length}
use Rattle.std.specs.Prelude.{◌||◌, Contains}
use Rattle.std.specs.Cmp.{IsEquivalence}
use Rattle.std.specs.Bool.{Decides}
use Rattle.std.specs.List.{AllByRecursion, IsDistinct}
use Rattle.std.specs.Set.{distinct_count, is_member, unique_keys}
use Rattle.std.proofs.lemmas.Bool.{or_parts}
use Rattle.std.proofs.lemmas.Map.Made.{is_member-Decides, length-le_from_is_member}
use Rattle.pebble_game.proofs.Marks.{all-contained}

module _ {K : Type 0} (eq : K → K → Bool) where
  later : (a b c : Bool) → (b ≡ true → c ≡ true) → (a || b) ≡ true → (a || c) ≡ true
  later true b c f e = refl
  later false b c f e = f e

  behind : (a b : Bool) → b ≡ true → (a || b) ≡ true
  behind true b e = refl
  behind false b e = e

  -- what is taken once is a member
  unique-member : (xs : List K) (q : K) → is_member eq (unique_keys eq xs) q ≡ true → is_member eq xs q ≡ true
  unique-member [] q m = m
  unique-member (x ∷ xs) q m = by (is_member eq xs x) (unique-member xs q) m where
    by : (again : Bool) → (is_member eq (unique_keys eq xs) q ≡ true → is_member eq xs q ≡ true)
        → is_member eq (cond again (unique_keys eq xs) (x ∷ unique_keys eq xs)) q ≡ true → is_member eq (x ∷ xs) q ≡ true
    by true rest n = behind (eq q x) (is_member eq xs q) (rest n)
    by false rest n = later (eq q x) (is_member eq (unique_keys eq xs) q) (is_member eq xs q) rest n

  unique-apart : (x : K) (ys : List K) → is_member eq ys x ≡ false → AllByRecursion (λ (y : K). eq x y ≡ false) (unique_keys eq ys)
  unique-apart x [] e = tt
  unique-apart x (y ∷ ys) e = let both = or_parts (eq x y) (is_member eq ys x) e in by (is_member eq ys y) both.0 (unique-apart x ys both.1) where
    by : (again : Bool) → eq x y ≡ false → AllByRecursion (λ (z : K). eq x z ≡ false) (unique_keys eq ys)
        → AllByRecursion (λ (z : K). eq x z ≡ false) (cond again (unique_keys eq ys) (y ∷ unique_keys eq ys))
    by true here rest = rest
    by false here rest = (here, rest)

  unique-distinct : (xs : List K) → IsDistinct eq (unique_keys eq xs)
  unfolding IsDistinct
  unique-distinct [] = tt
  unique-distinct (x ∷ xs) = by (is_member eq xs x) refl (unique-distinct xs) where
    by : (again : Bool) → is_member eq xs x ≡ again → IsDistinct eq (unique_keys eq xs) → IsDistinct eq (cond again (unique_keys eq xs) (x ∷ unique_keys eq xs))
    by true e rest = rest
    by false e rest = (unique-apart x xs e, rest)

  pub distinct-few : IsEquivalence eq → ((a b : K) → Decides (eq a b) (a ≡ b)) → (xs ys : List K) → AllByRecursion (Contains ys) xs → distinct_count eq xs ≤ length ys
  distinct-few laws same xs ys among =
      length-le_from_is_member laws (unique_keys eq xs) ys (unique-distinct xs)
      (λ q m. (is_member-Decides same ys q).1 (all-contained (Contains ys) xs q among ((is_member-Decides same xs q).0 (unique-member xs q m))))
