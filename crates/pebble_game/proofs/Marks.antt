-- Marks and sets of vertices.
use Rattle.std.proofs.Common.{◌≡◌, refl, sym, ◌∙◌, ap, subst, inl, inr, ℕ, zero, suc, ◌+◌, ◌<◌, ◌≤◌, Bool, true, false, cond, List, [], ◌∷◌, length, set, replicate, arith}
use Rattle.std.specs.Prelude.{◌⊎◌, filter, nat_eq, Contains}
use Rattle.std.specs.List.{AllByRecursion, IsDistinct}
use Rattle.std.proofs.lemmas.Bool.{eq-eqb, ne_eqb, cases_eq, or_left, or_right}
use Rattle.std.proofs.lemmas.List.{get_or-set_same, get_or-set_other}
use Rattle.std.proofs.lemmas.List.Elements.{All-from_recursion, All-contains}
use Rattle.std.proofs.lemmas.List.Sums.{sum_by-cons}
use Rattle.execution_laws.proofs.Members.{Member}
use Rattle.iolb_model.specs.Game.{marked, mark_count, stands_in}

-- a vertex that stands in a set is a member, and the other way round
pub standing-member : (xs : List ℕ) (v : ℕ) → stands_in xs v ≡ true → Member v xs
standing-member [] v h = absurd cc
standing-member (x ∷ xs) v h = by (cases_eq v x) (λ apart. standing-member xs v (rw (ne_eqb v x apart) at h)) where
  by : (v ≡ x) ⊎ (v ≡ x → ⊥) → ((v ≡ x → ⊥) → Member v xs) → Member v (x ∷ xs)
  by (inl e) later = inl e
  by (inr apart) later = inr (later apart)

pub member-stands : (xs : List ℕ) (v : ℕ) → Member v xs → stands_in xs v ≡ true
member-stands [] v m = absurd m
member-stands (x ∷ xs) v (inl e) = or_left (nat_eq v x) (stands_in xs v) (eq-eqb v x e)
member-stands (x ∷ xs) v (inr m) = or_right (nat_eq v x) (stands_in xs v) (member-stands xs v m)

pub marked-below : (marks : List Bool) (v : ℕ) → marked marks v ≡ true → v < length marks
marked-below [] v h = absurd cc
marked-below (m ∷ marks) zero h = omega arith
marked-below (m ∷ marks) (suc v) h = omega (arith, marked-below marks v h)

pub put-here : (marks : List Bool) (v : ℕ) → v < length marks → marked (set marks v true) v ≡ true
put-here marks v below = get_or-set_same marks v true false below

-- a vertex that is marked after a mark was put was marked before, or is the one
pub set-marked : (marks : List Bool) (w v : ℕ) → marked (set marks w true) v ≡ true → (v ≡ w) ⊎ (marked marks v ≡ true)
set-marked marks w v h = by (cases_eq v w) where
  by : (v ≡ w) ⊎ (v ≡ w → ⊥) → (v ≡ w) ⊎ (marked marks v ≡ true)
  by (inl e) = inl e
  by (inr apart) = inr (sym (get_or-set_other marks w v true false apart) ∙ h)

pub taken-here : (marks : List Bool) (w : ℕ) → marked (set marks w false) w ≡ false
taken-here [] w = refl
taken-here (m ∷ marks) zero = refl
taken-here (m ∷ marks) (suc w) = taken-here marks w

-- a vertex that is marked after a mark was taken off was marked before
pub dropped-marked : (marks : List Bool) (w v : ℕ) → marked (set marks w false) v ≡ true → marked marks v ≡ true
dropped-marked marks w v h = by (cases_eq v w) where
  by : (v ≡ w) ⊎ (v ≡ w → ⊥) → marked marks v ≡ true
  by (inl e) = let off : marked (set marks w false) v ≡ false = ap (λ (u : ℕ). marked (set marks w false) u) e ∙ taken-here marks w in absurd cc
  by (inr apart) = sym (get_or-set_other marks w v false false apart) ∙ h

-- the marked vertices, from one on
unfoldable pub marked_from : ℕ → List Bool → List ℕ
marked_from i [] = []
marked_from i (b ∷ bs) = cond b (i ∷ marked_from (suc i) bs) (marked_from (suc i) bs)

pub length-marked_from : (i : ℕ) (marks : List Bool) → length (marked_from i marks) ≡ mark_count marks
unfolding marked_from
length-marked_from i [] = refl
length-marked_from i (true ∷ bs) = omega (arith, sum_by-cons (λ (mark : Bool). cond mark 1 0) true bs, length-marked_from (suc i) bs)
length-marked_from i (false ∷ bs) = omega (arith, sum_by-cons (λ (mark : Bool). cond mark 1 0) false bs, length-marked_from (suc i) bs)

pub marked-member : (i : ℕ) (marks : List Bool) (v : ℕ) → marked marks v ≡ true → Member (i + v) (marked_from i marks)
unfolding marked_from
marked-member i [] v h = absurd cc
marked-member i (b ∷ bs) zero h = subst (λ (c : Bool). Member (i + 0) (cond c (i ∷ marked_from (suc i) bs) (marked_from (suc i) bs))) (sym h) (inl (none i)) where
  none : (n : ℕ) → n + 0 ≡ n
  none n = omega arith
marked-member i (b ∷ bs) (suc v) h = later b (subst (λ (n : ℕ). Member n (marked_from (suc i) bs)) (turned i v) (marked-member (suc i) bs v h)) where
  turned : (m n : ℕ) → suc m + n ≡ m + suc n
  turned m n = omega arith

  later : (c : Bool) → Member (i + suc v) (marked_from (suc i) bs) → Member (i + suc v) (cond c (i ∷ marked_from (suc i) bs) (marked_from (suc i) bs))
  later true m = inr m
  later false m = m

-- what holds of each member that passes a test holds of all that are left by it
pub all-filtered : {X : Type 0} (P : X → Type 0) (test : X → Bool) (xs : List X) → ((x : X) → Member x xs → test x ≡ true → P x) → AllByRecursion P (filter test xs)
all-filtered P test [] h = tt
all-filtered {X} P test (x ∷ xs) h = by (test x) refl (all-filtered P test xs (λ y m. h y (inr m))) where
  by : (b : Bool) → b ≡ test x → AllByRecursion P (filter test xs) → AllByRecursion P (cond b (x ∷ filter test xs) (filter test xs))
  by true e rest = (h x (inl refl) (sym e), rest)
  by false e rest = rest

-- what holds of all holds of each that a list contains
pub all-contained : {X : Type 0} (P : X → Type 0) (xs : List X) (x : X) → AllByRecursion P xs → Contains xs x → P x
all-contained P xs x h c = All-contains P xs x (All-from_recursion P xs h) c

-- none is marked where all marks are off
pub unmarked-at : (n v : ℕ) → marked (replicate n false) v ≡ false
unmarked-at zero v = refl
unmarked-at (suc n) zero = refl
unmarked-at (suc n) (suc v) = unmarked-at n v

pub none-marked : (n : ℕ) → mark_count (replicate n false) ≡ 0
none-marked zero = refl
none-marked (suc n) = omega (arith, sum_by-cons (λ (mark : Bool). cond mark 1 0) false (replicate n false), none-marked n)

-- a mark more
pub count-put : (marks : List Bool) (v : ℕ) → mark_count (set marks v true) ≤ mark_count marks + 1
count-put [] v = omega arith
count-put (b ∷ marks) zero = omega (arith, sum_by-cons (λ (mark : Bool). cond mark 1 0) true marks, sum_by-cons (λ (mark : Bool). cond mark 1 0) b marks)
count-put (b ∷ marks) (suc v) = omega (arith, sum_by-cons (λ (mark : Bool). cond mark 1 0) b (set marks v true), sum_by-cons (λ (mark : Bool). cond mark 1 0) b marks, count-put marks v)

apart-filtered : (x : ℕ) (test : ℕ → Bool) (xs : List ℕ) → AllByRecursion (λ (y : ℕ). nat_eq x y ≡ false) xs → AllByRecursion (λ (y : ℕ). nat_eq x y ≡ false) (filter test xs)
apart-filtered x test [] h = tt
apart-filtered x test (y ∷ xs) h = by (test y) (apart-filtered x test xs h.1) where
  by : (b : Bool) → AllByRecursion (λ (z : ℕ). nat_eq x z ≡ false) (filter test xs) → AllByRecursion (λ (z : ℕ). nat_eq x z ≡ false) (cond b (y ∷ filter test xs) (filter test xs))
  by true rest = (h.0, rest)
  by false rest = rest

-- different numbers that are left by a test are different
pub distinct-filtered : (test : ℕ → Bool) (xs : List ℕ) → IsDistinct nat_eq xs → IsDistinct nat_eq (filter test xs)
unfolding IsDistinct
distinct-filtered test [] h = tt
distinct-filtered test (x ∷ xs) h = by (test x) (distinct-filtered test xs h.1) where
  by : (b : Bool) → IsDistinct nat_eq (filter test xs) → IsDistinct nat_eq (cond b (x ∷ filter test xs) (filter test xs))
  by true rest = (apart-filtered x test xs h.0, rest)
  by false rest = rest

-- a number that is left by a test is a member and passes it
pub filtered-member : (test : ℕ → Bool) (xs : List ℕ) (v : ℕ) → Member v (filter test xs) → Member v xs × (test v ≡ true)
filtered-member test [] v m = absurd m
filtered-member test (x ∷ xs) v m = by (test x) refl m (λ n. filtered-member test xs v n) where
  by : (b : Bool) → b ≡ test x → Member v (cond b (x ∷ filter test xs) (filter test xs)) → (Member v (filter test xs) → Member v xs × (test v ≡ true)) → Member v (x ∷ xs) × (test v ≡ true)
  by true e (inl same) later = (inl same, ap test same ∙ sym e)
  by true e (inr n) later = let r = later n in (inr r.0, r.1)
  by false e n later = let r = later n in (inr r.0, r.1)
