-- The queue of red vertices: its first key is that of the vertex that goes.
use Rattle.std.proofs.Common.{◌≡◌, refl, sym, ◌∙◌, ap, inl, inr, ℕ, zero, suc, ◌+◌, ◌-◌, ◌<◌, ◌≤◌, Bool, true, false, cond, not, leb, List, [], ◌∷◌, length, find, Some, None, IsTrue, arith}
use Rattle.std.specs.Prelude.{◌⊎◌, ◌&&◌, ◌||◌, nat_eq, nat_lt}
use Rattle.std.specs.List.{list_any, list_all, range_with_len, position_or_len}
use Rattle.std.specs.Ordering.{nat_cmp, ordering_then, is_eq, is_gt}
use Rattle.std.specs.declared.cmp.Ordering.{Ordering}
use Rattle.std.specs.declared.cmp.Ordering.TheVariants.{Less, Equal, Greater}
use Rattle.std.specs.Cmp.{nat_cmp_is}
use Rattle.std.specs.BTreeMap.{is_at}
use Rattle.std.proofs.lemmas.Bool.{cases_eq, cases_Bool, cases_order, and_parts, and_from, and_left, or_left, or_right, or_cases, leb-true, le-leb, eq-eqb, ne_eqb, eqb-true, lt-ltb, not-true, not_from_false, false_from_ne_true}
use Rattle.std.proofs.lemmas.Map.Keys.{le_from_not_gt}
use Rattle.iolb_model.specs.Graph.{ComputationGraph}
use Rattle.iolb_model.specs.Game.{Board, vertices}
use Rattle.pebble_replay.specs.Played.{reads, is_used, next_use, may_go, is_furthest, victim}
use Rattle.pebble_replay.specs.Uses.{uses_of, first_or_zero, left_from}
use Rattle.pebble_replay.specs.Queue.{pair_cmp}
use Rattle.pebble_replay.specs.Turns.{IsQueue}
use Rattle.pebble_replay.proofs.Victim.{list_all-from, list_all-at, Member-vertices}

-- ---- keys
eq-cmp : (x y : ℕ) → is_eq (nat_cmp x y) ≡ nat_eq x y
eq-cmp x y = by (cases_order x y) where
  by : (x ≡ y) ⊎ ((x < y) ⊎ (y < x)) → is_eq (nat_cmp x y) ≡ nat_eq x y
  by (inl e) = ap is_eq (sym (nat_cmp_is x y Equal e)) ∙ sym (eq-eqb x y e)
  by (inr (inl less)) = ap is_eq (sym (nat_cmp_is x y Less less)) ∙ sym (ne_eqb x y (λ e. omega (arith, e, less)))
  by (inr (inr more)) = ap is_eq (sym (nat_cmp_is x y Greater more)) ∙ sym (ne_eqb x y (λ e. omega (arith, e, more)))

eq-then : (r s : Ordering) → is_eq (ordering_then r s) ≡ (is_eq r && is_eq s)
eq-then Less s = refl
eq-then Equal s = refl
eq-then Greater s = refl

pub at-pair : (a q : ℕ × ℕ) → is_at (pair_cmp a) q ≡ (nat_eq a.0 q.0 && nat_eq a.1 q.1)
at-pair a q =
    eq-then (nat_cmp a.0 q.0) (nat_cmp a.1 q.1) ∙ ap (λ (b : Bool). b && is_eq (nat_cmp a.1 q.1)) (eq-cmp a.0 q.0)
    ∙ ap (λ (b : Bool). nat_eq a.0 q.0 && b) (eq-cmp a.1 q.1)

-- a key that isn't after another is before it, or has the same first part and no greater vertex
not-after : (a q : ℕ × ℕ) → is_gt (pair_cmp a q) ≡ false → (a.0 < q.0) ⊎ ((a.0 ≡ q.0) × (a.1 ≤ q.1))
not-after a q h = by (cases_order a.0 q.0) where
  by : (a.0 ≡ q.0) ⊎ ((a.0 < q.0) ⊎ (q.0 < a.0)) → (a.0 < q.0) ⊎ ((a.0 ≡ q.0) × (a.1 ≤ q.1))
  by (inl e) = inr (e, le_from_not_gt a.1 q.1 (ap (λ (r : Ordering). is_gt (ordering_then r (nat_cmp a.1 q.1))) (nat_cmp_is a.0 q.0 Equal e) ∙ h))
  by (inr (inl less)) = inl less
  by (inr (inr more)) = absurd (let bad : true ≡ false = ap (λ (r : Ordering). is_gt (ordering_then r (nat_cmp a.1 q.1))) (nat_cmp_is a.0 q.0 Greater more) ∙ h in cc)

-- ---- what is left from the next use on
next-le : (p : ℕ → Bool) (xs : List ℕ) → position_or_len p xs ≤ length xs
next-le p [] = omega arith
next-le p (x ∷ xs) = by (p x) (next-le p xs) where
  by : (b : Bool) → position_or_len p xs ≤ length xs → cond (not b) (1 + position_or_len p xs) 0 ≤ suc (length xs)
  by true h = omega arith
  by false h = omega (arith, h)

pub left-cons : (graph : ComputationGraph) (w : ℕ) (later : List ℕ) (u : ℕ)
    → left_from graph (w ∷ later) u ≡ cond (reads graph u w) (suc (length later)) (left_from graph later u)
left-cons graph w later u = by (reads graph u w) where
  by : (b : Bool) → suc (length later) - cond (not b) (1 + next_use graph later u) 0 ≡ cond b (suc (length later)) (length later - next_use graph later u)
  by true = omega arith
  by false = omega arith

pub left-first : (graph : ComputationGraph) (later : List ℕ) (u : ℕ) → left_from graph later u ≡ first_or_zero (uses_of graph later u)
left-first graph [] u = refl
left-first graph (w ∷ later) u = left-cons graph w later u ∙ by (reads graph u w) (left-first graph later u) where
  by : (b : Bool) → left_from graph later u ≡ first_or_zero (uses_of graph later u)
      → cond b (suc (length later)) (left_from graph later u) ≡ first_or_zero (cond b (suc (length later) ∷ uses_of graph later u) (uses_of graph later u))
  by true h = refl
  by false h = h

pub left-used : (graph : ComputationGraph) (later : List ℕ) (u : ℕ) → is_used graph later u ≡ nat_lt 0 (left_from graph later u)
left-used graph [] u = refl
left-used graph (w ∷ later) u = by (reads graph u w) (left-used graph later u) ∙ sym (ap (nat_lt 0) (left-cons graph w later u)) where
  by : (b : Bool) → is_used graph later u ≡ nat_lt 0 (left_from graph later u)
      → (b || is_used graph later u) ≡ nat_lt 0 (cond b (suc (length later)) (left_from graph later u))
  by true h = sym (lt-ltb 0 (suc (length later)) (omega arith))
  by false h = h

-- ---- the first key
find-least : (p : ℕ → Bool) (a n u : ℕ) → a ≤ u → u < a + n → p u ≡ true → ((w : ℕ) → w < u → p w ≡ false) → find p (range_with_len a n) ≡ Some u
find-least p a zero u low high on before = absurd (omega (arith, low, high))
find-least p a (suc n) u low high on before =
    by (cases_eq a u) (λ (less : a < u). find-least p (a + 1) n u (omega (arith, less)) (omega (arith, high)) on before) where
      by : (a ≡ u) ⊎ (a ≡ u → ⊥) → (a < u → find p (range_with_len (a + 1) n) ≡ Some u) → cond (p a) (Some a) (find p (range_with_len (a + 1) n)) ≡ Some u
      by (inl e) rest = ap (λ (b : Bool). cond b (Some a) (find p (range_with_len (a + 1) n))) (ap p e ∙ on) ∙ ap Some e
      by (inr apart) rest =
          let less : a < u = omega (arith, low, apart) in
          ap (λ (b : Bool). cond b (Some a) (find p (range_with_len (a + 1) n))) (before a less) ∙ rest less

module _ (graph : ComputationGraph) (later : List ℕ) (v : ℕ) (board : Board) (keys : List (ℕ × ℕ))
    (queue : IsQueue keys (may_go graph v board) (left_from graph later)) where
  -- whoever may go is in the queue
  waits : (w : ℕ) → may_go graph v board w ≡ true → list_any (is_at (pair_cmp (left_from graph later w, w))) keys ≡ true
  waits w may = queue (left_from graph later w, w) ∙ and_from (may_go graph v board w) (nat_eq (left_from graph later w) (left_from graph later w)) may (eq-eqb (left_from graph later w) (left_from graph later w) refl)

  -- a key of the queue is that of one that may go
  pub known : (k : ℕ × ℕ) → list_any (is_at (pair_cmp k)) keys ≡ true → (may_go graph v board k.1 ≡ true) × (k.0 ≡ left_from graph later k.1)
  known k h =
      let parts = and_parts (may_go graph v board k.1) (nat_eq k.0 (left_from graph later k.1)) (sym (queue k) ∙ h) in
      (parts.0, eqb-true k.0 (left_from graph later k.1) parts.1)

  -- nobody goes where the queue is empty
  pub nobody : keys ≡ [] → victim graph later v board ≡ None
  nobody e = none (range_with_len 0 (vertices graph)) where
    idle : (w : ℕ) → is_furthest graph later v board w ≡ false
    idle w = and_left (may_go graph v board w) (list_all (λ x. not (may_go graph v board x) || leb (next_use graph later x) (next_use graph later w)) (range_with_len 0 (vertices graph)))
        (false_from_ne_true (may_go graph v board w) (λ on. let here : list_any (is_at (pair_cmp (left_from graph later w, w))) [] ≡ true = ap (list_any (is_at (pair_cmp (left_from graph later w, w)))) (sym e) ∙ waits w on in cc))

    none : (us : List ℕ) → find (is_furthest graph later v board) us ≡ None
    none [] = refl
    none (u ∷ us) = ap (λ (b : Bool). cond b (Some u) (find (is_furthest graph later v board) us)) (idle u) ∙ none us

  -- the vertex of a first key goes
  pub first-goes : (k : ℕ × ℕ) → k.1 < vertices graph → list_any (is_at (pair_cmp k)) keys ≡ true
      → ((q : ℕ × ℕ) → IsTrue (list_any (is_at (pair_cmp q)) keys) → is_gt (pair_cmp k q) ≡ false) → victim graph later v board ≡ Some k.1
  first-goes k there here least = find-least (is_furthest graph later v board) 0 (vertices graph) k.1 (omega arith) (omega (arith, there)) furthest (λ w less. nearer w less) where
    own : (may_go graph v board k.1 ≡ true) × (k.0 ≡ left_from graph later k.1)
    own = known k here

    after : (w : ℕ) → may_go graph v board w ≡ true → (k.0 < left_from graph later w) ⊎ ((k.0 ≡ left_from graph later w) × (k.1 ≤ w))
    after w may = not-after k (left_from graph later w, w) (least (left_from graph later w, w) (waits w may))

    further : (w : ℕ) → (k.0 < left_from graph later w) ⊎ ((k.0 ≡ left_from graph later w) × (k.1 ≤ w)) → next_use graph later w ≤ next_use graph later k.1
    further w (inl less) = omega (arith, less, own.1, next-le (reads graph w) later, next-le (reads graph k.1) later)
    further w (inr same) = omega (arith, same.0, own.1, next-le (reads graph w) later, next-le (reads graph k.1) later)

    all : List ℕ
    all = range_with_len 0 (vertices graph)

    furthest : is_furthest graph later v board k.1 ≡ true
    furthest = and_from (may_go graph v board k.1) (list_all (λ w. not (may_go graph v board w) || leb (next_use graph later w) (next_use graph later k.1)) (range_with_len 0 (vertices graph))) own.0
        (list_all-from (λ w. not (may_go graph v board w) || leb (next_use graph later w) (next_use graph later k.1)) (range_with_len 0 (vertices graph)) (λ w m. each w (cases_Bool (may_go graph v board w)))) where
          each : (w : ℕ) → (may_go graph v board w ≡ true) ⊎ (may_go graph v board w ≡ false) → (not (may_go graph v board w) || leb (next_use graph later w) (next_use graph later k.1)) ≡ true
          each w (inl may) = or_right (not (may_go graph v board w)) (leb (next_use graph later w) (next_use graph later k.1)) (le-leb (next_use graph later w) (next_use graph later k.1) (further w (after w may)))
          each w (inr off) = or_left (not (may_go graph v board w)) (leb (next_use graph later w) (next_use graph later k.1)) (not_from_false (may_go graph v board w) off)

    nearer : (w : ℕ) → w < k.1 → is_furthest graph later v board w ≡ false
    nearer w less = false_from_ne_true (is_furthest graph later v board w) (λ on. contradiction w less (and_parts (may_go graph v board w) (list_all (λ x. not (may_go graph v board x) || leb (next_use graph later x) (next_use graph later w)) (range_with_len 0 (vertices graph))) on)) where
      beaten : (w : ℕ) → w < k.1 → next_use graph later k.1 ≤ next_use graph later w → (k.0 < left_from graph later w) ⊎ ((k.0 ≡ left_from graph later w) × (k.1 ≤ w)) → ⊥
      beaten w less far (inl near) = omega (arith, far, near, own.1, next-le (reads graph w) later, next-le (reads graph k.1) later)
      beaten w less far (inr same) = omega (arith, same.1, less)

      contradiction : (w : ℕ) → w < k.1
          → (may_go graph v board w ≡ true) × (list_all (λ x. not (may_go graph v board x) || leb (next_use graph later x) (next_use graph later w)) (range_with_len 0 (vertices graph)) ≡ true) → ⊥
      contradiction w less on =
          let at_it : (not (may_go graph v board k.1) || leb (next_use graph later k.1) (next_use graph later w)) ≡ true =
          list_all-at (λ x. not (may_go graph v board x) || leb (next_use graph later x) (next_use graph later w)) (range_with_len 0 (vertices graph)) k.1 on.1 (Member-vertices (vertices graph) k.1 there) in
          beaten w less (far (or_cases (not (may_go graph v board k.1)) (leb (next_use graph later k.1) (next_use graph later w)) at_it)) (after w on.0) where
            far : (not (may_go graph v board k.1) ≡ true) ⊎ (leb (next_use graph later k.1) (next_use graph later w) ≡ true) → next_use graph later k.1 ≤ next_use graph later w
            far (inl off) = absurd (let mine : may_go graph v board k.1 ≡ true = own.0 in let other : may_go graph v board k.1 ≡ false = not-true (may_go graph v board k.1) off in cc)
            far (inr le) = leb-true (next_use graph later k.1) (next_use graph later w) le
