-- Numbers in a row, one more, and those of them that pass a test.
use Rattle.std.proofs.Common.{◌≡◌, sym, ◌∙◌, ap, ℕ, zero, suc, ◌+◌, ◌<◌, ◌≤◌, Bool, true, false, List, [], ◌∷◌, ◌++◌, length, filter, cond, arith}
use Rattle.std.specs.Prelude.{flat_map, nat_eq}
use Rattle.std.specs.List.{AllByRecursion, IsDistinct, range_with_len}
use Rattle.std.proofs.lemmas.Bool.{ne_eqb}
use Rattle.std.proofs.lemmas.Grind.{flat_map-append}
use Rattle.std.proofs.lemmas.List.{append-nil, map-id}
use Rattle.std.proofs.lemmas.List.Elements.{filter-append}
use Rattle.std.proofs.lemmas.List.FromFn.{map-range_with_len_more}

pub range-next : (k : ℕ) → range_with_len 0 (k + 1) ≡ range_with_len 0 k ++ k ∷ []
range-next k =
    sym (map-id (range_with_len 0 (k + 1))) ∙ map-range_with_len_more (λ (n : ℕ). n) 0 k k (omega arith) ∙ ap (λ (ns : List ℕ). ns ++ k ∷ []) (map-id (range_with_len 0 k))

-- one more, from any number on
pub range-push : (first n : ℕ) → range_with_len first n ++ (first + n) ∷ [] ≡ range_with_len first (suc n)
range-push first zero = ap (λ (k : ℕ). k ∷ []) (omega arith)
range-push first (suc n) = ap (λ (l : List ℕ). first ∷ l) (ap (λ (k : ℕ). range_with_len (first + 1) n ++ k ∷ []) (omega arith) ∙ range-push (first + 1) n)

pub range-more : (first n : ℕ) → range_with_len first (n + 1) ≡ range_with_len first n ++ (first + n) ∷ []
range-more first n = ap (range_with_len first) next ∙ sym (range-push first n) where
  next : n + 1 ≡ suc n
  next = omega arith

-- each is another
others-differ : (a first n : ℕ) → a < first → AllByRecursion (λ (y : ℕ). nat_eq a y ≡ false) (range_with_len first n)
others-differ a first zero below = tt
others-differ a first (suc n) below = (ne_eqb a first (λ e. omega (arith, e, below)), others-differ a (first + 1) n (omega (arith, below)))

pub range-distinct : (first n : ℕ) → IsDistinct nat_eq (range_with_len first n)
unfolding IsDistinct
range-distinct first zero = tt
range-distinct first (suc n) = (others-differ first (first + 1) n (omega arith), range-distinct (first + 1) n)

-- what is made of each, one behind another
pub flat-range-more : {X : Type 0} (g : ℕ → List X) (k : ℕ) → flat_map g (range_with_len 0 (k + 1)) ≡ flat_map g (range_with_len 0 k) ++ g k
flat-range-more g k =
    ap (flat_map g) (range-next k) ∙ flat_map-append g (range_with_len 0 k) (k ∷ []) ∙ ap (λ xs. flat_map g (range_with_len 0 k) ++ xs) (append-nil (g k))

-- those that pass, with one more that does
filter-next : (p : ℕ → Bool) (k : ℕ) → filter p (range_with_len 0 (k + 1)) ≡ filter p (range_with_len 0 k) ++ cond (p k) (k ∷ []) []
filter-next p k = ap (filter p) (range-next k) ∙ filter-append p (range_with_len 0 k) (k ∷ [])

pub filter-passed : (p : ℕ → Bool) (k : ℕ) → p k ≡ true → filter p (range_with_len 0 (k + 1)) ≡ filter p (range_with_len 0 k) ++ k ∷ []
filter-passed p k passes = filter-next p k ∙ ap (λ (b : Bool). filter p (range_with_len 0 k) ++ cond b (k ∷ []) []) passes

-- and with one more that doesn't
pub filter-failed : (p : ℕ → Bool) (k : ℕ) → p k ≡ false → filter p (range_with_len 0 (k + 1)) ≡ filter p (range_with_len 0 k)
filter-failed p k fails = filter-next p k ∙ ap (λ (b : Bool). filter p (range_with_len 0 k) ++ cond b (k ∷ []) []) fails ∙ append-nil (filter p (range_with_len 0 k))

-- they are no more than all
pub filter-few : (p : ℕ → Bool) (ns : List ℕ) → length (filter p ns) ≤ length ns
filter-few p [] = omega arith
filter-few p (n ∷ ns) = by (p n) (filter-few p ns) where
  by : (b : Bool) → length (filter p ns) ≤ length ns → length (cond b (n ∷ filter p ns) (filter p ns)) ≤ suc (length ns)
  by true h = omega arith
  by false h = omega arith
