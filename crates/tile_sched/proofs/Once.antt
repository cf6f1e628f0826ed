-- An order that has the numbers below another in some order has each once.
use Rattle.std.proofs.Common.{◌≡◌, refl, sym, ◌∙◌, subst, ℕ, zero, suc, ◌+◌, ◌<◌, ◌≤◌, Bool, true, false, List, [], ◌∷◌, arith}
use Rattle.std.specs.Prelude.{nat_eq, ◌||◌, IsTrue}
use Rattle.std.specs.List.{All, AllByRecursion, IsDistinct, range_with_len, list_any}
use Rattle.std.specs.List.Sorted.{IsPermutation}
use Rattle.std.proofs.lemmas.Bool.{eqb-true, eq-eqb}
use Rattle.std.proofs.lemmas.List.Sorted.{All-permutation, list_any-IsPermutation}
use Rattle.std.proofs.lemmas.Map.Keys.{IsDistinct-IsPermutation}
use Rattle.base_laws.proofs.Lists.{All-at}
use Rattle.base_laws.proofs.Ranges.{range-distinct}
use Rattle.iolb_model.specs.Graph.{ComputationGraph}
use Rattle.pebble_replay.specs.Order.{HoldsEachOnce}

below_range : (first count : ℕ) → AllByRecursion (λ v. v < first + count) (range_with_len first count)
below_range first zero = tt
below_range first (suc count) =
    let one : first + 1 + count ≡ first + suc count = omega arith in
    (omega arith, subst (λ n. AllByRecursion (λ v. v < n) (range_with_len (first + 1) count)) one (below_range (first + 1) count))

among_range : (v first count : ℕ) → first ≤ v → v < first + count → IsTrue (list_any (nat_eq v) (range_with_len first count))
among_range v first zero low high = absurd (omega arith)
among_range v first (suc count) low high = by (nat_eq v first) refl (λ ne. among_range v (first + 1) count (omega (arith, ne)) (omega arith)) where
  by : (t : Bool) → nat_eq v first ≡ t → ((v ≡ first → ⊥) → IsTrue (list_any (nat_eq v) (range_with_len (first + 1) count))) → IsTrue (t || list_any (nat_eq v) (range_with_len (first + 1) count))
  by true e later = refl
  by false e later = later (λ same. let yes : nat_eq v first ≡ true = eq-eqb v first same in absurd cc)

by_recursion : {X : Type 0} (P : X → Type 0) (xs : List X) → All P xs → AllByRecursion P xs
by_recursion P [] h = tt
by_recursion P (x ∷ xs) h = (h 0 x (omega arith), by_recursion P xs (λ k d below. h (suc k) d (omega arith)))

flips : (x y : ℕ) → nat_eq x y ≡ nat_eq y x
flips x y = by (nat_eq x y) (nat_eq y x) refl refl where
  by : (s t : Bool) → nat_eq x y ≡ s → nat_eq y x ≡ t → s ≡ t
  by true true e f = refl
  by true false e f = sym (eq-eqb y x (sym (eqb-true x y e))) ∙ f
  by false true e f = sym e ∙ eq-eqb x y (sym (eqb-true y x f))
  by false false e f = refl

pub order_distinct : (count : ℕ) (order : List ℕ) → IsPermutation (range_with_len 0 count) order → IsDistinct nat_eq order
order_distinct count order moved = IsDistinct-IsPermutation nat_eq flips (range_with_len 0 count) order moved (range-distinct 0 count)

pub holds_each_once : (graph : ComputationGraph) (count : ℕ) (order : List ℕ) → count ≡ graph.instances → IsPermutation (range_with_len 0 count) order → HoldsEachOnce graph order
holds_each_once graph count order many moved =
    let low : All (λ v. v < 0 + count) (range_with_len 0 count) = λ k d below. All-at (λ v. v < 0 + count) (range_with_len 0 count) k d (below_range 0 count) below in
    let all : AllByRecursion (λ v. v < 0 + count) order = by_recursion (λ v. v < 0 + count) order (All-permutation (λ v. v < 0 + count) (range_with_len 0 count) order moved low) in
    let instances : 0 + count ≡ graph.instances = omega (arith, many) in record {
      there = subst (λ n. AllByRecursion (λ v. v < n) order) instances all;
      once = order_distinct count order moved;
      each = λ v below. sym (list_any-IsPermutation (nat_eq v) (range_with_len 0 count) order moved) ∙ among_range v 0 count (omega arith) (omega (arith, below, many));
    }
