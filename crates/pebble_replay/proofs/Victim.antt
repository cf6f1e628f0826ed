-- The vertex that goes: there is one where a red vertex may go, and it is the least of those with the furthest next use.
use Rattle.std.proofs.Common.{◌≡◌, refl, sym, ◌∙◌, ap, inl, inr, ℕ, ◌<◌, ◌≤◌, Bool, true, false, cond, not, leb, List, [], ◌∷◌, find, Some, None, arith}
use Rattle.std.specs.Prelude.{◌⊎◌, ◌&&◌, ◌||◌}
use Rattle.std.specs.List.{list_all, range_with_len}
use Rattle.std.proofs.lemmas.Bool.{cases_Bool, cases_lt, and_parts, and_from, or_right, or_left, le-leb, not_from_false}
use Rattle.iolb_model.specs.Graph.{ComputationGraph}
use Rattle.iolb_model.specs.Game.{Board, vertices}
use Rattle.execution_laws.proofs.Members.{Member}
use Rattle.execution_laws.proofs.Domains.{counted-has}
use Rattle.pebble_replay.specs.Played.{next_use, may_go, is_furthest, victim}

-- what passes a test is found, or something before it
pub find-some : {A : Type 0} (p : A → Bool) (xs : List A) (x : A) → Member x xs → p x ≡ true → (y : A) × (find p xs ≡ Some y) × (p y ≡ true)
find-some p [] x m h = absurd m
find-some {A} p (z ∷ xs) x m h = by (cases_Bool (p z)) m (λ (n : Member x xs). find-some p xs x n h) where
  by : (p z ≡ true) ⊎ (p z ≡ false) → Member x (z ∷ xs) → (Member x xs → (y : A) × (find p xs ≡ Some y) × (p y ≡ true))
      → (y : A) × (cond (p z) (Some z) (find p xs) ≡ Some y) × (p y ≡ true)
  by (inl on) n rest = (z, ap (λ (b : Bool). cond b (Some z) (find p xs)) on, on)
  by (inr off) (inl e) rest = absurd (let same : p x ≡ p z = ap p e in cc)
  by (inr off) (inr n) rest = let found = rest n in (found.0, ap (λ (b : Bool). cond b (Some z) (find p xs)) off ∙ found.1, found.2)

-- nothing that is there passes where nothing is found
pub find-none_at : {A : Type 0} (p : A → Bool) (xs : List A) (x : A) → find p xs ≡ None → Member x xs → p x ≡ false
find-none_at p [] x e m = absurd m
find-none_at p (z ∷ xs) x e m = by (p z) refl e m (λ (f : find p xs ≡ None) (n : Member x xs). find-none_at p xs x f n) where
  by : (b : Bool) → p z ≡ b → cond b (Some z) (find p xs) ≡ None → Member x (z ∷ xs) → (find p xs ≡ None → Member x xs → p x ≡ false) → p x ≡ false
  by true on f n rest = absurd cc
  by false off f (inl w) rest = ap p w ∙ off
  by false off f (inr n) rest = rest f n

-- a vertex is among all vertices
pub Member-vertices : (n k : ℕ) → k < n → Member k (range_with_len 0 n)
Member-vertices n k h = counted-has 0 n k (omega arith) (omega (arith, h))

pub list_all-from : (p : ℕ → Bool) (xs : List ℕ) → ((x : ℕ) → Member x xs → p x ≡ true) → list_all p xs ≡ true
list_all-from p [] h = refl
list_all-from p (x ∷ xs) h = and_from (p x) (list_all p xs) (h x (inl refl)) (list_all-from p xs (λ y m. h y (inr m)))

pub list_all-at : (p : ℕ → Bool) (xs : List ℕ) (x : ℕ) → list_all p xs ≡ true → Member x xs → p x ≡ true
list_all-at p [] x h m = absurd m
list_all-at p (y ∷ xs) x h (inl e) = ap p e ∙ (and_parts (p y) (list_all p xs) h).0
list_all-at p (y ∷ xs) x h (inr m) = list_all-at p xs x (and_parts (p y) (list_all p xs) h).1 m

module _ (may : ℕ → Bool) (key : ℕ → ℕ) where
  -- of those that may go, one has a key that none of them passes
  record IsBest (us : List ℕ) (z : ℕ) : Type 0 where
    there : Member z us
    may_go : may z ≡ true
    greatest : (x : ℕ) → Member x us → may x ≡ true → key x ≤ key z

  best-from : (us : List ℕ) (w : ℕ) → may w ≡ true → (z : ℕ) × IsBest (w ∷ us) z
  best-from [] w h = (w, record { there = inl refl; may_go = h; greatest = λ x m k. only x m }) where
    only : (x : ℕ) → Member x (w ∷ []) → key x ≤ key w
    only x (inl e) = omega (arith, ap key e)
    only x (inr m) = absurd m
  best-from (u ∷ us) w h = by (cases_Bool (may u)) (cases_lt (key w) (key u)) (best-from us w h) (λ (k : may u ≡ true). best-from us u k) where
    without : (z : ℕ) → IsBest (w ∷ us) z → (may u ≡ true → key u ≤ key z) → IsBest (w ∷ u ∷ us) z
    without z best small = record { there = wider best.there; may_go = best.may_go; greatest = λ x m k. most x m k } where
      wider : Member z (w ∷ us) → Member z (w ∷ u ∷ us)
      wider (inl e) = inl e
      wider (inr m) = inr (inr m)

      most : (x : ℕ) → Member x (w ∷ u ∷ us) → may x ≡ true → key x ≤ key z
      most x (inl e) k = best.greatest x (inl e) k
      most x (inr (inl e)) k = omega (arith, ap key e, small (ap may (sym e) ∙ k))
      most x (inr (inr m)) k = best.greatest x (inr m) k

    within : (z : ℕ) → IsBest (u ∷ us) z → key w < key u → may u ≡ true → IsBest (w ∷ u ∷ us) z
    within z best less on = record { there = inr best.there; may_go = best.may_go; greatest = λ x m k. most x m k } where
      most : (x : ℕ) → Member x (w ∷ u ∷ us) → may x ≡ true → key x ≤ key z
      most x (inl e) k = omega (arith, ap key e, less, best.greatest u (inl refl) on)
      most x (inr m) k = best.greatest x m k

    by : (may u ≡ true) ⊎ (may u ≡ false) → (key w < key u) ⊎ (key u ≤ key w) → (z : ℕ) × IsBest (w ∷ us) z
        → (may u ≡ true → (z : ℕ) × IsBest (u ∷ us) z) → (z : ℕ) × IsBest (w ∷ u ∷ us) z
    by (inr off) c r s = (r.0, without r.0 r.1 (λ k. absurd cc))
    by (inl on) (inr le) r s = (r.0, without r.0 r.1 (λ k. omega (arith, le, r.1.greatest w (inl refl) h)))
    by (inl on) (inl less) r s = let t = s on in (t.0, within t.0 t.1 less on)

  best : (us : List ℕ) (u : ℕ) → Member u us → may u ≡ true → (z : ℕ) × IsBest us z
  best [] u m h = absurd m
  best (w ∷ us) u (inl e) h = best-from us w (ap may (sym e) ∙ h)
  best (w ∷ us) u (inr m) h = by (cases_Bool (may w)) (best us u m h) where
    by : (may w ≡ true) ⊎ (may w ≡ false) → (z : ℕ) × IsBest us z → (z : ℕ) × IsBest (w ∷ us) z
    by (inl on) r = best-from us w on
    by (inr off) r = (r.0, record { there = inr r.1.there; may_go = r.1.may_go; greatest = λ x n k. most x n k }) where
      most : (x : ℕ) → Member x (w ∷ us) → may x ≡ true → key x ≤ key r.0
      most x (inl e) k = absurd (let same : may x ≡ may w = ap may e in cc)
      most x (inr n) k = r.1.greatest x n k

  -- such a one passes the test that asks for it
  best-furthest : (us : List ℕ) (z : ℕ) → IsBest us z → (may z && list_all (λ w. not (may w) || leb (key w) (key z)) us) ≡ true
  best-furthest us z greatest =
      and_from (may z) (list_all (λ w. not (may w) || leb (key w) (key z)) us) greatest.may_go
      (list_all-from (λ w. not (may w) || leb (key w) (key z)) us (λ x m. each x m (cases_Bool (may x)))) where
        each : (x : ℕ) → Member x us → (may x ≡ true) ⊎ (may x ≡ false) → (not (may x) || leb (key x) (key z)) ≡ true
        each x m (inl on) = or_right (not (may x)) (leb (key x) (key z)) (le-leb (key x) (key z) (greatest.greatest x m on))
        each x m (inr off) = or_left (not (may x)) (leb (key x) (key z)) (not_from_false (may x) off)

-- where a vertex may go, one goes, and it may
pub victim-some : (graph : ComputationGraph) (later : List ℕ) (v : ℕ) (board : Board) (u : ℕ) → u < vertices graph → may_go graph v board u ≡ true
    → (x : ℕ) × (victim graph later v board ≡ Some x) × (may_go graph v board x ≡ true)
victim-some graph later v board u there may =
    let all : List ℕ = range_with_len 0 (vertices graph) in
    let greatest = best (may_go graph v board) (next_use graph later) all u (Member-vertices (vertices graph) u there) may in
    let found = find-some (is_furthest graph later v board) all greatest.0 greatest.1.there (best-furthest (may_go graph v board) (next_use graph later) all greatest.0 greatest.1) in
    (found.0, found.1, (and_parts (may_go graph v board found.0) (list_all (λ w. not (may_go graph v board w) || leb (next_use graph later w) (next_use graph later found.0)) all) found.2).0)
