-- Instances have one order by what is said of them.
use Rattle.std.proofs.Common.{◌≡◌, refl, sym, ◌∙◌, ap, subst, ℕ, suc, zero, ◌+◌, ◌<◌, Bool, true, false, List, [], ◌∷◌, length, get_or, add-one, arith}
use Rattle.std.specs.Prelude.{ℤ, nat_eq, ◌||◌}
use Rattle.std.specs.Cmp.{IsTotalOrder, ranks}
use Rattle.std.specs.Cmp.Lexicographic.{slice_cmp}
use Rattle.std.specs.List.{AllByRecursion, IsDistinct, list_any, range_with_len}
use Rattle.std.specs.List.Sorted.{IsStrictlySortedBy}
use Rattle.std.specs.Ordering.{MatchOrdering, is_lt, ordering_reverse, ordering_then, int_cmp, nat_cmp}
use Rattle.std.specs.declared.cmp.Ordering.{Ordering}
use Rattle.std.specs.declared.cmp.Ordering.TheVariants.{Less, Equal, Greater}
use Rattle.std.proofs.lemmas.Bool.{eqb-true, eq-eqb}
use Rattle.std.proofs.lemmas.Cmp.{int_cmp_total, lists_total, nat_cmp_total, on_total, then_total}
use Rattle.std.proofs.lemmas.List.Sorted.{list_any-IsPermutation}
use Rattle.std.proofs.lemmas.Map.Keys.{sorted_from_all_adjacent}
use Rattle.tile_sched.specs.Order.{compare, IsOrder}
use Rattle.tile_sched.specs.OneSchedule.{OrdersAreOne}
use Rattle.tile_sched.proofs.Once.{order_distinct}

compare_total : (all : List (List ℤ)) → IsTotalOrder (compare all)
compare_total all = then_total (on_total (λ v. get_or all v []) (lists_total int_cmp_total)) nat_cmp_total

-- instances that compare as equal are one
equal_is : (all : List (List ℤ)) (x y : ℕ) → compare all x y ≡ Equal → x ≡ y
equal_is all x y e =
    subst (λ (r : Ordering). MatchOrdering r (x < y) (x ≡ y) (y < x)) (last (slice_cmp int_cmp (get_or all x []) (get_or all y [])) (nat_cmp x y) e) (ranks x y) where
      last : (a b : Ordering) → ordering_then a b ≡ Equal → b ≡ Equal
      last Less b h = absurd cc
      last Equal b h = h
      last Greater b h = absurd cc

self_equal : (all : List (List ℤ)) (x : ℕ) → compare all x x ≡ Equal
self_equal all x = by (compare all x x) refl where
  by : (r : Ordering) → compare all x x ≡ r → r ≡ Equal
  by Less e = absurd (let turned : Less ≡ Greater = sym e ∙ (compare_total all).antisymm x x ∙ ap ordering_reverse e in cc)
  by Equal e = refl
  by Greater e = absurd (let turned : Greater ≡ Less = sym e ∙ (compare_total all).antisymm x x ∙ ap ordering_reverse e in cc)

next_less : (all : List (List ℤ)) (x y : ℕ) → is_lt (compare all y x) ≡ false → (x ≡ y → ⊥) → compare all x y ≡ Less
next_less all x y h differ = by (compare all x y) refl where
  by : (r : Ordering) → compare all x y ≡ r → r ≡ Less
  by Less e = refl
  by Equal e = absurd (differ (equal_is all x y e))
  by Greater e = absurd (let turned : true ≡ false = sym (ap is_lt ((compare_total all).antisymm y x ∙ ap ordering_reverse e)) ∙ h in cc)

apart : (xs : List ℕ) (k d : ℕ) → IsDistinct nat_eq xs → suc k < length xs → get_or xs k d ≡ get_or xs (suc k) d → ⊥
unfolding IsDistinct
apart [] k d distinct h e = omega (arith, h)
apart (x ∷ []) k d distinct h e = omega (arith, h)
apart (x ∷ y ∷ ys) zero d distinct h e = let same : true ≡ false = sym (eq-eqb x y e) ∙ distinct.0.0 in cc
apart (x ∷ y ∷ ys) (suc k) d distinct h e = apart (y ∷ ys) k d distinct.1 (omega (arith, h)) e

strict : (all : List (List ℤ)) (order : List ℕ) → IsOrder all order → IsStrictlySortedBy (compare all) order
strict all order is =
    sorted_from_all_adjacent (compare_total all) order 0
    (λ k h. next_less all (get_or order k 0) (get_or order (k + 1) 0) (is.ascends k 0 (omega arith) h)
    (λ e. apart order k 0 (order_distinct (length all) order is.each) (omega (arith, h)) (e ∙ ap (λ (j : ℕ). get_or order j 0) (add-one k))))

-- ---- lists that ascend and have the same members are one

-- what a list has is above what stands before it
above : (all : List (List ℤ)) (x : ℕ) (xs : List ℕ) (q : ℕ) → AllByRecursion (λ y. compare all x y ≡ Less) xs → list_any (nat_eq q) xs ≡ true → compare all x q ≡ Less
above all x [] q below h = absurd cc
above all x (y ∷ ys) q below h = by (nat_eq q y) refl h (λ (k : list_any (nat_eq q) ys ≡ true). above all x ys q below.1 k) where
  by : (t : Bool) → nat_eq q y ≡ t → (t || list_any (nat_eq q) ys) ≡ true → (list_any (nat_eq q) ys ≡ true → compare all x q ≡ Less) → compare all x q ≡ Less
  by true e k rest = ap (compare all x) (eqb-true q y e) ∙ below.0
  by false e k rest = rest k

not_among : (all : List (List ℤ)) (x : ℕ) (xs : List ℕ) → AllByRecursion (λ y. compare all x y ≡ Less) xs → list_any (nat_eq x) xs ≡ false
not_among all x xs below = by (list_any (nat_eq x) xs) refl where
  by : (t : Bool) → list_any (nat_eq x) xs ≡ t → t ≡ false
  by true e = absurd (let wrong : Equal ≡ Less = sym (self_equal all x) ∙ above all x xs x below e in cc)
  by false e = refl

-- a first member that comes before another list's first is no member of that list
missed : (all : List (List ℤ)) (x y : ℕ) (xs ys : List ℕ) → compare all x y ≡ Less → AllByRecursion (λ z. compare all y z ≡ Less) ys
    → ((q : ℕ) → list_any (nat_eq q) (x ∷ xs) ≡ list_any (nat_eq q) (y ∷ ys)) → ⊥
missed all x y xs ys less below same = by (nat_eq x y) refl where
  there : list_any (nat_eq x) (y ∷ ys) ≡ true
  there = sym (same x) ∙ ap (λ (t : Bool). t || list_any (nat_eq x) xs) (eq-eqb x x refl)

  by : (t : Bool) → nat_eq x y ≡ t → ⊥
  by true e = let wrong : Less ≡ Equal = sym less ∙ ap (compare all x) (sym (eqb-true x y e)) ∙ self_equal all x in cc
  by false e =
      let later : compare all y x ≡ Less = above all y ys x below (ap (λ (t : Bool). t || list_any (nat_eq x) ys) (sym e) ∙ there) in
      let wrong : Less ≡ Greater = sym less ∙ (compare_total all).antisymm x y ∙ ap ordering_reverse later in cc

same_sorted : (all : List (List ℤ)) (xs ys : List ℕ) → IsStrictlySortedBy (compare all) xs → IsStrictlySortedBy (compare all) ys
    → ((q : ℕ) → list_any (nat_eq q) xs ≡ list_any (nat_eq q) ys) → xs ≡ ys
unfolding IsStrictlySortedBy
same_sorted all [] [] p q same = refl
same_sorted all [] (y ∷ ys) p q same = absurd (let wrong : false ≡ true = same y ∙ ap (λ (t : Bool). t || list_any (nat_eq y) ys) (eq-eqb y y refl) in cc)
same_sorted all (x ∷ xs) [] p q same = absurd (let wrong : true ≡ false = sym (ap (λ (t : Bool). t || list_any (nat_eq x) xs) (eq-eqb x x refl)) ∙ same x in cc)
same_sorted all (x ∷ xs) (y ∷ ys) p q same =
    by (compare all x y) refl (λ (others : (z : ℕ) → list_any (nat_eq z) xs ≡ list_any (nat_eq z) ys). same_sorted all xs ys p.1 q.1 others) where
      rest : x ≡ y → (z : ℕ) (t : Bool) → nat_eq z x ≡ t → list_any (nat_eq z) xs ≡ list_any (nat_eq z) ys
      rest e z true is =
          let z_is : z ≡ x = eqb-true z x is in
          ap (λ (w : ℕ). list_any (nat_eq w) xs) z_is ∙ not_among all x xs p.0 ∙ sym (not_among all y ys q.0) ∙ ap (λ (w : ℕ). list_any (nat_eq w) ys) (sym (z_is ∙ e))
      rest e z false is =
          let other : nat_eq z y ≡ false = ap (nat_eq z) (sym e) ∙ is in
          ap (λ (t : Bool). t || list_any (nat_eq z) xs) (sym is) ∙ same z ∙ ap (λ (t : Bool). t || list_any (nat_eq z) ys) other

      by : (r : Ordering) → compare all x y ≡ r → (((z : ℕ) → list_any (nat_eq z) xs ≡ list_any (nat_eq z) ys) → xs ≡ ys) → x ∷ xs ≡ y ∷ ys
      by Less e more = absurd (missed all x y xs ys e q.0 same)
      by Equal e more =
          let first : x ≡ y = equal_is all x y e in
          ap (λ (w : ℕ). w ∷ xs) first ∙ ap (λ (l : List ℕ). y ∷ l) (more (λ z. rest first z (nat_eq z x) refl))
      by Greater e more = absurd (missed all y x ys xs ((compare_total all).antisymm y x ∙ ap ordering_reverse e) p.0 (λ z. sym (same z)))

orders : (all : List (List ℤ)) (one other : List ℕ) → IsOrder all one → IsOrder all other → one ≡ other
orders all one other p q =
    same_sorted all one other (strict all one p) (strict all other q)
    (λ z. sym (list_any-IsPermutation (nat_eq z) (range_with_len 0 (length all)) one p.each) ∙ list_any-IsPermutation (nat_eq z) (range_with_len 0 (length all)) other q.each)

pub orders_one : OrdersAreOne
orders_one = orders
