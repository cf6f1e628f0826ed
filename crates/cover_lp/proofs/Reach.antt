-- Whether a denominator has a pair in reach is decided by all lists of small numbers, so that there is a least one.
use Rattle.std.proofs.Common.{◌≡◌, refl, sym, ap, subst, inl, inr, ℕ, zero, suc, ◌+◌, ◌-◌, ◌<◌, ◌≤◌, Bool, true, false, List, [], ◌∷◌, length, sum, arith}
use Rattle.std.specs.Prelude.{◌⊎◌, ◌==◌, nat_lt}
use Rattle.std.specs.List.{AllByRecursion}
use Rattle.std.proofs.lemmas.Bool.{eqb-true, eqb-false, ltb-true, ltb-false}
use Rattle.std.proofs.lemmas.List.Sums.{sum_by-cons}
use Rattle.cover_lp.specs.Cover.{IsCover, IsLeastPair, IsPacking, IsPair, IsPairInReach, PairsInReachHaveLeast, packed_from, weight_at}
use Rattle.cover_lp.proofs.Duality.{no-greater}

-- ---- what is decided

-- a fact holds, or doesn't
abbrev Decided : Type 0 → Type 0
Decided P = P ⊎ (P → ⊥)

equal : (m n : ℕ) → Decided (m ≡ n)
equal m n = by (m == n) refl where
  by : (b : Bool) → (m == n) ≡ b → Decided (m ≡ n)
  by true e = inl (eqb-true m n e)
  by false e = inr (eqb-false m n e)

at-most : (m n : ℕ) → Decided (m ≤ n)
at-most m n = by (nat_lt n m) refl where
  by : (b : Bool) → nat_lt n m ≡ b → Decided (m ≤ n)
  by true e = let more : n < m = ltb-true n m e in inr (λ le. omega (arith, more, le))
  by false e = inl (ltb-false n m e)

less : (m n : ℕ) → (n ≤ m → ⊥) → m < n
less m n never = by (nat_lt m n) refl where
  by : (b : Bool) → nat_lt m n ≡ b → m < n
  by true e = ltb-true m n e
  by false e = absurd (never (ltb-false m n e))

-- a number below the next one is below this, or is it
below-next : (n k : ℕ) → k < suc n → (k < n) ⊎ (k ≡ n)
below-next n k under = by (at-most n k) where
  by : Decided (n ≤ k) → (k < n) ⊎ (k ≡ n)
  by (inl le) = inr (omega (arith, le, under))
  by (inr never) = inl (less k n never)

-- it holds of every number below one
all-below : (P : ℕ → Type 0) → ((k : ℕ) → Decided (P k)) → (n : ℕ) → Decided ((k : ℕ) → k < n → P k)
all-below P decided zero = inl (λ k under. absurd (omega (arith, under)))
all-below P decided (suc n) = by (all-below P decided n) (decided n) where
  by : Decided ((k : ℕ) → k < n → P k) → Decided (P n) → Decided ((k : ℕ) → k < suc n → P k)
  by (inr never) here = inr (λ all. never (λ k under. all k (omega (arith, under))))
  by (inl all) (inr never) = inr (λ every. never (every n (omega arith)))
  by (inl all) (inl here) = inl (λ k under. at k (below-next n k under)) where
    at : (k : ℕ) → (k < n) ⊎ (k ≡ n) → P k
    at k (inl under) = all k under
    at k (inr same) = subst P (sym same) here

-- it holds of each member
all-members : {X : Type 0} (P : X → Type 0) → ((x : X) → Decided (P x)) → (xs : List X) → Decided (AllByRecursion P xs)
all-members P decided [] = inl tt
all-members P decided (x ∷ xs) = by (decided x) (all-members P decided xs) where
  by : Decided (P x) → Decided (AllByRecursion P xs) → Decided (AllByRecursion P (x ∷ xs))
  by (inl here) (inl later) = inl (here, later)
  by (inl here) (inr never) = inr (λ all. never all.1)
  by (inr never) later = inr (λ all. never all.0)

-- it holds of a number up to one
abbrev UpTo : (ℕ → Type 0) → ℕ → Type 0
UpTo P n = (k : ℕ) × (k ≤ n) × P k

some-up-to : (P : ℕ → Type 0) → ((k : ℕ) → Decided (P k)) → (n : ℕ) → Decided (UpTo P n)
some-up-to P decided zero = by (decided 0) where
  by : Decided (P 0) → Decided (UpTo P 0)
  by (inl here) = inl (0, omega arith, here)
  by (inr never) = inr (λ some. never (subst P (omega (arith, some.1)) some.2))
some-up-to P decided (suc n) = by (decided (suc n)) (some-up-to P decided n) where
  by : Decided (P (suc n)) → Decided (UpTo P n) → Decided (UpTo P (suc n))
  by (inl here) rest = inl (suc n, omega arith, here)
  by (inr never) (inl some) = inl (some.0, omega (arith, some.1), some.2)
  by (inr never) (inr none) = inr (λ some. at some.0 some.2 (below-next (suc n) some.0 (omega (arith, some.1)))) where
    at : (k : ℕ) → P k → (k < suc n) ⊎ (k ≡ suc n) → ⊥
    at k p (inl under) = none (k, omega (arith, under), p)
    at k p (inr same) = never (subst P same p)

-- it holds of a list of so many numbers with a total up to one
abbrev OfList : ℕ → ℕ → (List ℕ → Type 0) → Type 0
OfList n most P = (xs : List ℕ) × (length xs ≡ n) × (sum xs ≤ most) × P xs

-- a first number of such a list
abbrev Later : ℕ → ℕ → (List ℕ → Type 0) → ℕ → Type 0
Later n most P k = OfList n (most - k) (λ xs. P (k ∷ xs))

some-list : (n most : ℕ) (P : List ℕ → Type 0) → ((xs : List ℕ) → Decided (P xs)) → Decided (OfList n most P)
some-list zero most P decided = by (decided []) where
  empty : (xs : List ℕ) → length xs ≡ 0 → P xs → P []
  empty [] none p = p
  empty (x ∷ xs) none p = absurd (omega (arith, none))

  by : Decided (P []) → Decided (OfList 0 most P)
  by (inl here) = inl ([], refl, omega arith, here)
  by (inr never) = inr (λ some. never (empty some.0 some.1 some.3))
some-list (suc n) most P decided = by (some-up-to (Later n most P) (λ k. some-list n (most - k) (λ xs. P (k ∷ xs)) (λ xs. decided (k ∷ xs))) most) where
  by : Decided (UpTo (Later n most P) most) → Decided (OfList (suc n) most P)
  by (inl some) = inl (
    some.0 ∷ some.2.0,
    ap suc some.2.1,
    omega (arith, some.1, some.2.2, sum_by-cons (λ (m : ℕ). m) some.0 some.2.0),
    some.2.3,
  )
  by (inr none) = inr (λ some. from some.0 some.1 some.2 some.3) where
    from : (xs : List ℕ) → length xs ≡ suc n → sum xs ≤ most → P xs → ⊥
    from [] many light p = absurd (omega (arith, many))
    from (k ∷ xs) many light p =
        let whole : sum (k ∷ xs) ≡ k + sum xs = sum_by-cons (λ (m : ℕ). m) k xs in
        none (k, omega (arith, light, whole), (xs, omega (arith, many), omega (arith, light, whole), p))

-- ---- pairs

module _ (sets : List (List ℕ)) (d : ℕ) where
  cover : (q : ℕ) (weights : List ℕ) → Decided (IsCover sets d q weights)
  cover q weights = by (equal (length weights) (length sets)) (all-below (λ k. q ≤ weight_at sets weights k) (λ k. at-most q (weight_at sets weights k)) d) where
    by : Decided (length weights ≡ length sets) → Decided ((k : ℕ) → k < d → q ≤ weight_at sets weights k) → Decided (IsCover sets d q weights)
    by (inl many) (inl all) = inl (record { one_each = many; covered = all })
    by (inl many) (inr never) = inr (λ h. never h.covered)
    by (inr never) all = inr (λ h. never h.one_each)

  packs : (q : ℕ) (packing : List ℕ) → Decided (IsPacking sets d q packing)
  packs q packing = by (equal (length packing) d) (all-members (λ set. packed_from 0 packing set ≤ q) (λ set. at-most (packed_from 0 packing set) q) sets) where
    by : Decided (length packing ≡ d) → Decided (AllByRecursion (λ set. packed_from 0 packing set ≤ q) sets) → Decided (IsPacking sets d q packing)
    by (inl many) (inl all) = inl (record { one_each = many; held = all })
    by (inl many) (inr never) = inr (λ h. never h.held)
    by (inr never) all = inr (λ h. never h.one_each)

  pair : (q : ℕ) (weights packing : List ℕ) → Decided (IsPair sets d q weights packing)
  pair q weights packing = by (cover q weights) (packs q packing) (equal (sum weights) (sum packing)) where
    by : Decided (IsCover sets d q weights) → Decided (IsPacking sets d q packing) → Decided (sum weights ≡ sum packing) → Decided (IsPair sets d q weights packing)
    by (inl one) (inl other) (inl same) = inl (record { cover = one; packs = other; equal = same })
    by (inl one) (inl other) (inr never) = inr (λ h. never h.equal)
    by (inl one) (inr never) same = inr (λ h. never h.packs)
    by (inr never) other same = inr (λ h. never h.cover)

  -- a denominator has a pair of a total of at most 24
  abbrev Packed : ℕ → List ℕ → Type 0
  Packed q weights = OfList d 24 (λ packing. IsPair sets d q weights packing)

  abbrev HasPair : ℕ → Type 0
  HasPair q = OfList (length sets) 24 (Packed q)

  has-pair : (q : ℕ) → Decided (HasPair q)
  has-pair q = some-list (length sets) 24 (Packed q) (λ weights. some-list d 24 (λ packing. IsPair sets d q weights packing) (pair q weights))

  given : (q : ℕ) (weights packing : List ℕ) → sum weights ≤ 24 → IsPair sets d q weights packing → HasPair q
  given q weights packing light is = (weights, is.cover.one_each, light, (packing, is.packs.one_each, omega (arith, light, is.equal), is))

  -- the first denominator from 1 on that has one, up to one
  abbrev Counts : ℕ → Type 0
  Counts q = (1 ≤ q) × HasPair q

  counts : (q : ℕ) → Decided (Counts q)
  counts zero = inr (λ h. absurd (omega (arith, h.0)))
  counts (suc q) = by (has-pair (suc q)) where
    by : Decided (HasPair (suc q)) → Decided (Counts (suc q))
    by (inl has) = inl (omega arith, has)
    by (inr never) = inr (λ h. never h.1)

  abbrev First : ℕ → Type 0
  First n = (m : ℕ) × (m < n) × Counts m × ((k : ℕ) → k < m → Counts k → ⊥)

  first : (n : ℕ) → First n ⊎ ((k : ℕ) → k < n → Counts k → ⊥)
  first zero = inr (λ k under h. absurd (omega (arith, under)))
  first (suc n) = by (first n) (counts n) where
    by : First n ⊎ ((k : ℕ) → k < n → Counts k → ⊥) → Decided (Counts n) → First (suc n) ⊎ ((k : ℕ) → k < suc n → Counts k → ⊥)
    by (inl found) here = inl (found.0, omega (arith, found.1), found.2, found.3)
    by (inr none) (inl here) = inl (n, omega arith, here, none)
    by (inr none) (inr never) = inr (λ k under h. at k h (below-next n k under)) where
      at : (k : ℕ) → Counts k → (k < n) ⊎ (k ≡ n) → ⊥
      at k h (inl under) = none k under h
      at k h (inr same) = never (subst Counts same h)

abbrev Answer : List (List ℕ) → ℕ → Type 0
Answer sets d = (least : ℕ) × (least_weights : List ℕ) × (least_packing : List ℕ) × IsLeastPair sets d least least_weights least_packing × IsPairInReach sets d least least_weights least_packing

pub pairs-in-reach : PairsInReachHaveLeast
pairs-in-reach sets d q weights packing h = by (first sets d (suc q)) where
  by : First sets d (suc q) ⊎ ((k : ℕ) → k < suc q → Counts sets d k → ⊥) → Answer sets d
  by (inr none) = absurd (none q (omega arith) (h.positive, given sets d q weights packing h.light h.is_pair))
  by (inl (m, below, counted, none)) =
      let has = counted.1 in
      let is : IsPair sets d m has.0 has.3.0 = has.3.3 in (
        m,
        has.0,
        has.3.0,
        record { positive = counted.0; is_pair = is; least = λ lesser ws ps some other. no-lesser lesser ws ps some other (at-most m lesser) },
        record { positive = counted.0; few = omega (arith, below, h.few); light = has.2; is_pair = is },
      ) where
        no-lesser : (lesser : ℕ) (ws ps : List ℕ) → 1 ≤ lesser → IsPair sets d lesser ws ps → Decided (m ≤ lesser) → m ≤ lesser
        no-lesser lesser ws ps some other (inl le) = le
        no-lesser lesser ws ps some other (inr never) =
            let under : lesser < m = less lesser m never in
            let light : sum ps ≤ sum weights = no-greater sets d q lesser weights ps h.positive (omega (arith, under, below)) h.is_pair.cover other.packs in
            absurd (none lesser under (some, given sets d lesser ws ps (omega (arith, light, other.equal, h.light)) other))
