-- Unions of marks: a vertex has a mark in a union where it has one in some of the lists.
use Rattle.std.proofs.Common.{◌≡◌, refl, sym, ◌∙◌, ap, ℕ, zero, suc, ◌+◌, ◌<◌, ◌≤◌, Bool, true, false, cond, ◌||◌, List, [], ◌∷◌, map, get_or, take, drop, set, sum, arith}
use Rattle.std.specs.List.{list_any}
use Rattle.std.proofs.lemmas.Bool.{or_left, or_right}
use Rattle.std.proofs.lemmas.List.{take-map, drop-map}
use Rattle.std.proofs.lemmas.List.Sums.{sum_by-cons}
use Rattle.std.proofs.Math.Seq.{map-set_same}
use Rattle.iolb_model.specs.Game.{marked, mark_count}
use Rattle.iolb_model.specs.Tower.{stands_at_one}
use Rattle.stretch_laws.proofs.CompletePebblings.{count-cons}

-- where one of two lists has the mark
unfoldable pub either : List Bool → List Bool → List Bool
either [] bs = bs
either (a ∷ as_) [] = a ∷ as_
either (a ∷ as_) (b ∷ bs) = (a || b) ∷ either as_ bs

-- where one of some lists has it
unfoldable pub union : List (List Bool) → List Bool
union [] = []
union (marks ∷ rest) = either marks (union rest)

pub sum-cons : (n : ℕ) (ns : List ℕ) → sum (n ∷ ns) ≡ n + sum ns
sum-cons n ns = sum_by-cons (λ (m : ℕ). m) n ns

one-or-other : (a b : Bool) → cond (a || b) 1 0 ≤ cond a 1 0 + cond b 1 0
one-or-other true true = omega arith
one-or-other true false = omega arith
one-or-other false true = omega arith
one-or-other false false = omega arith

pub count-either : (xs ys : List Bool) → mark_count (either xs ys) ≤ mark_count xs + mark_count ys
unfolding either
count-either [] ys = omega arith
count-either (x ∷ xs) [] = omega arith
count-either (x ∷ xs) (y ∷ ys) =
    omega (arith, count-cons (x || y) (either xs ys), count-cons x xs, count-cons y ys, one-or-other x y, count-either xs ys)

-- a union has at most as many marks as its lists together
pub count-union : (lists : List (List Bool)) → mark_count (union lists) ≤ sum (map mark_count lists)
unfolding union
count-union [] = omega arith
count-union (marks ∷ rest) = omega (arith, count-either marks (union rest), count-union rest, sum-cons (mark_count marks) (map mark_count rest))

or-none : (b : Bool) → b ≡ (b || false)
or-none true = refl
or-none false = refl

pub marked-either : (xs ys : List Bool) (v : ℕ) → marked (either xs ys) v ≡ (marked xs v || marked ys v)
unfolding either
marked-either [] ys v = refl
marked-either (x ∷ xs) [] v = or-none (marked (x ∷ xs) v)
marked-either (x ∷ xs) (y ∷ ys) zero = refl
marked-either (x ∷ xs) (y ∷ ys) (suc v) = marked-either xs ys v

pub marked-union : (lists : List (List Bool)) (v : ℕ) → marked (union lists) v ≡ stands_at_one lists v
unfolding union
marked-union [] v = refl
marked-union (marks ∷ rest) v = marked-either marks (union rest) v ∙ ap (λ b. marked marks v || b) (marked-union rest v)

at-most : (a b : Bool) → (a ≡ true → b ≡ true) → cond a 1 0 ≤ cond b 1 0
at-most true b h = omega (arith, ap {B = ℕ} (λ (c : Bool). cond c 1 0) (h refl))
at-most false true h = omega arith
at-most false false h = omega arith

-- where each mark of one list stands in another, there are at most as many
pub count-within : (xs ys : List Bool) → ((v : ℕ) → marked xs v ≡ true → marked ys v ≡ true) → mark_count xs ≤ mark_count ys
count-within [] ys h = omega arith
count-within (x ∷ xs) [] h =
    omega (arith, count-cons x xs, at-most x false (h 0), count-within xs [] (λ v e. h (suc v) e))
count-within (x ∷ xs) (y ∷ ys) h =
    omega (arith, count-cons x xs, count-cons y ys, at-most x y (h 0), count-within xs ys (λ v e. h (suc v) e))

-- Marks that stand in a union are at most as many as its lists have together.
pub count-of-union : (marks : List Bool) (lists : List (List Bool)) → ((v : ℕ) → marked marks v ≡ true → stands_at_one lists v ≡ true)
    → mark_count marks ≤ sum (map mark_count lists)
count-of-union marks lists h =
    omega (arith, count-within marks (union lists) (λ v e. marked-union lists v ∙ h v e), count-union lists)

-- ---- marks of one of the lists

-- a vertex stands in the union of the first lists where one of them has its mark
pub stands-first : (lists : List (List Bool)) (i k v : ℕ) → k < i → marked (get_or lists k []) v ≡ true → stands_at_one (take i lists) v ≡ true
stands-first [] i k v below h = absurd cc
stands-first (marks ∷ rest) zero k v below h = absurd (omega (arith, below))
stands-first (marks ∷ rest) (suc i) zero v below h = or_left (marked marks v) (stands_at_one (take i rest) v) h
stands-first (marks ∷ rest) (suc i) (suc k) v below h =
    or_right (marked marks v) (stands_at_one (take i rest) v) (stands-first rest i k v (omega (arith, below)) h)

-- and likewise in that of the lists from one on
pub stands-last : (lists : List (List Bool)) (i k v : ℕ) → i ≤ k → marked (get_or lists k []) v ≡ true → stands_at_one (drop i lists) v ≡ true
stands-last [] i k v past h = absurd cc
stands-last (marks ∷ rest) zero zero v past h = or_left (marked marks v) (stands_at_one rest v) h
stands-last (marks ∷ rest) zero (suc k) v past h = or_right (marked marks v) (stands_at_one rest v) (stands-last rest zero k v (omega arith) h)
stands-last (marks ∷ rest) (suc i) zero v past h = absurd (omega (arith, past))
stands-last (marks ∷ rest) (suc i) (suc k) v past h = stands-last rest i k v (omega (arith, past)) h

stands-marks : (lists : List (List Bool)) (v : ℕ) → stands_at_one lists v ≡ list_any (λ b. b) (map (λ marks. marked marks v) lists)
stands-marks [] v = refl
stands-marks (marks ∷ rest) v = ap (λ b. marked marks v || b) (stands-marks rest v)

-- where a list's mark of a vertex stays, it stands in the same unions
pub first-stays : (lists : List (List Bool)) (i k v : ℕ) (marks : List Bool) → marked marks v ≡ marked (get_or lists k []) v
    → stands_at_one (take i (set lists k marks)) v ≡ stands_at_one (take i lists) v
first-stays lists i k v marks h =
    stands-marks (take i (set lists k marks)) v
    ∙ ap (list_any (λ b. b)) (sym (take-map (λ (m : List Bool). marked m v) i (set lists k marks))
    ∙ ap (take i) (map-set_same (λ (m : List Bool). marked m v) lists k marks [] h)
    ∙ take-map (λ (m : List Bool). marked m v) i lists)
    ∙ sym (stands-marks (take i lists) v)

pub last-stays : (lists : List (List Bool)) (i k v : ℕ) (marks : List Bool) → marked marks v ≡ marked (get_or lists k []) v
    → stands_at_one (drop i (set lists k marks)) v ≡ stands_at_one (drop i lists) v
last-stays lists i k v marks h =
    stands-marks (drop i (set lists k marks)) v
    ∙ ap (list_any (λ b. b)) (sym (drop-map (λ (m : List Bool). marked m v) i (set lists k marks))
    ∙ ap (drop i) (map-set_same (λ (m : List Bool). marked m v) lists k marks [] h)
    ∙ drop-map (λ (m : List Bool). marked m v) i lists)
    ∙ sym (stands-marks (drop i lists) v)
