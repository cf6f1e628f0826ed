-- Marks on vertices, put and taken off.
use Rattle.std.proofs.Common.{◌≡◌, refl, sym, ◌∙◌, subst, inl, inr, ℕ, zero, suc, ◌+◌, ◌-◌, ◌<◌, ◌≤◌, Bool, true, false, cond, List, [], ◌∷◌, ◌++◌, length, set, replicate, arith}
use Rattle.std.specs.Prelude.{◌⊎◌, nat_eq}
use Rattle.std.specs.List.{AllByRecursion, IsDistinct}
use Rattle.std.specs.Cmp.{nat_eq_equiv}
use Rattle.std.proofs.lemmas.Bool.{cases_eq, cases_Bool, ne_eqb, or_cases, or_from, eqb-true}
use Rattle.std.proofs.lemmas.List.{get_or-set_other, length-replicate}
use Rattle.std.proofs.lemmas.List.Sums.{sum_by-set}
use Rattle.std.proofs.lemmas.Map.Made.{length-le_from_is_member}
use Rattle.std.proofs.Math.Seq.{get_or-append_right}
use Rattle.iolb_model.specs.Game.{marked, mark_count, stands_in}
use Rattle.execution_laws.proofs.Members.{Member}
use Rattle.pebble_game.proofs.Marks.{marked-below, put-here, marked_from, length-marked_from}

-- a mark stays where another is put
pub put-stays : (marks : List Bool) (v w : ℕ) → marked marks w ≡ true → marked (set marks v true) w ≡ true
put-stays marks v w h = by (cases_eq w v) where
  by : (w ≡ v) ⊎ (w ≡ v → ⊥) → marked (set marks v true) w ≡ true
  by (inl e) = subst (λ (x : ℕ). marked (set marks v true) x ≡ true) (sym e) (put-here marks v (omega (arith, e, marked-below marks w h)))
  by (inr apart) = get_or-set_other marks v w true false apart ∙ h

pub put-other : (marks : List Bool) (v w : ℕ) → (w ≡ v → ⊥) → marked (set marks v true) w ≡ marked marks w
put-other marks v w apart = get_or-set_other marks v w true false apart

-- a mark stays where another is taken off
pub taken-other : (marks : List Bool) (v w : ℕ) → (w ≡ v → ⊥) → marked (set marks v false) w ≡ marked marks w
taken-other marks v w apart = get_or-set_other marks v w false false apart

less-by-one : (b : Bool) (n m : ℕ) → n + cond b 1 0 ≡ m + 0 → b ≡ true → n < m
less-by-one true n m e h = omega (arith, e)
less-by-one false n m e h = absurd cc

-- one mark less
pub count-taken : (marks : List Bool) (v : ℕ) → marked marks v ≡ true → mark_count (set marks v false) < mark_count marks
count-taken marks v h =
    less-by-one (marked marks v) (mark_count (set marks v false)) (mark_count marks)
    (sum_by-set (λ (mark : Bool). cond mark 1 0) marks v false false (marked-below marks v h)) h

all-marked : (n v : ℕ) → v < n → marked (replicate n true) v ≡ true
all-marked zero v h = absurd (omega (arith, h))
all-marked (suc n) zero h = refl
all-marked (suc n) (suc v) h = all-marked n v (omega (arith, h))

-- at first the inputs have blue pebbles
pub first-blue : (instances inputs u : ℕ) → instances ≤ u → u < instances + inputs → marked (replicate instances false ++ replicate inputs true) u ≡ true
first-blue instances inputs u past below =
    let len : length (replicate instances false) ≡ instances = length-replicate instances false in
    get_or-append_right (replicate instances false) (replicate inputs true) u false (omega (arith, len))
    ∙ all-marked inputs (u - length (replicate instances false)) (omega (arith, len))

-- the marked vertices, from one on, are different
apart-from : (i : ℕ) (marks : List Bool) (k : ℕ) → k < i → AllByRecursion (λ (v : ℕ). nat_eq k v ≡ false) (marked_from i marks)
unfolding marked_from
apart-from i [] k below = tt
apart-from i (true ∷ marks) k below = (ne_eqb k i (λ e. omega (arith, e)), apart-from (suc i) marks k (omega arith))
apart-from i (false ∷ marks) k below = apart-from (suc i) marks k (omega arith)

marked_from-distinct : (i : ℕ) (marks : List Bool) → IsDistinct nat_eq (marked_from i marks)
unfolding IsDistinct marked_from
marked_from-distinct i [] = tt
marked_from-distinct i (true ∷ marks) = (apart-from (suc i) marks i (omega arith), marked_from-distinct (suc i) marks)
marked_from-distinct i (false ∷ marks) = marked_from-distinct (suc i) marks

-- each of some vertices stands in the list, or one doesn't
all-or-one : (us vs : List ℕ) → ((q : ℕ) → stands_in vs q ≡ true → stands_in us q ≡ true) ⊎ ((u : ℕ) × Member u vs × (stands_in us u ≡ false))
all-or-one us [] = inl (λ q h. absurd cc)
all-or-one us (v ∷ vs) = by (cases_Bool (stands_in us v)) (all-or-one us vs) where
  by : (stands_in us v ≡ true) ⊎ (stands_in us v ≡ false) → ((q : ℕ) → stands_in vs q ≡ true → stands_in us q ≡ true) ⊎ ((u : ℕ) × Member u vs × (stands_in us u ≡ false))
      → ((q : ℕ) → stands_in (v ∷ vs) q ≡ true → stands_in us q ≡ true) ⊎ ((u : ℕ) × Member u (v ∷ vs) × (stands_in us u ≡ false))
  by (inr out) rest = inr (v, inl refl, out)
  by (inl here) (inr found) = inr (found.0, inr found.1, found.2)
  by (inl here) (inl all) = inl (λ q h. which q (or_cases (nat_eq q v) (stands_in vs q) h)) where
    which : (q : ℕ) → (nat_eq q v ≡ true) ⊎ (stands_in vs q ≡ true) → stands_in us q ≡ true
    which q (inl e) = subst (λ (x : ℕ). stands_in us x ≡ true) (sym (eqb-true q v e)) here
    which q (inr m) = all q m

marked_from-marked : (i : ℕ) (marks : List Bool) (u : ℕ) → Member u (marked_from i marks) → (v : ℕ) × (u ≡ i + v) × (marked marks v ≡ true)
unfolding marked_from
marked_from-marked i [] u m = absurd m
marked_from-marked i (true ∷ marks) u (inl e) = (zero, omega (arith, e), refl)
marked_from-marked i (true ∷ marks) u (inr m) = let found = marked_from-marked (suc i) marks u m in (suc found.0, omega (arith, found.1), found.2)
marked_from-marked i (false ∷ marks) u m = let found = marked_from-marked (suc i) marks u m in (suc found.0, omega (arith, found.1), found.2)

-- where more vertices are marked than a list has members, one of them doesn't stand in it
pub one-outside : (marks : List Bool) (us : List ℕ) → length us < mark_count marks → (u : ℕ) × (marked marks u ≡ true) × (stands_in us u ≡ false)
one-outside marks us many = by (all-or-one us (marked_from 0 marks)) where
  by : ((q : ℕ) → stands_in (marked_from 0 marks) q ≡ true → stands_in us q ≡ true) ⊎ ((u : ℕ) × Member u (marked_from 0 marks) × (stands_in us u ≡ false))
      → (u : ℕ) × (marked marks u ≡ true) × (stands_in us u ≡ false)
  by (inl all) = absurd (omega (arith, length-marked_from 0 marks, length-le_from_is_member nat_eq_equiv (marked_from 0 marks) us (marked_from-distinct 0 marks) all))
  by (inr outside) =
      let found : (v : ℕ) × (outside.0 ≡ 0 + v) × (marked marks v ≡ true) = marked_from-marked 0 marks outside.0 outside.1 in
      let same : outside.0 ≡ found.0 = omega (arith, found.1) in
      (outside.0, subst (λ (x : ℕ). marked marks x ≡ true) (sym same) found.2, outside.2)

-- a vertex that differs from all members doesn't stand in the list
pub apart-stands : (u : ℕ) (us : List ℕ) → AllByRecursion (λ (y : ℕ). nat_eq u y ≡ false) us → stands_in us u ≡ false
apart-stands u [] h = refl
apart-stands u (x ∷ us) h = or_from (nat_eq u x) (stands_in us u) h.0 (apart-stands u us h.1)
