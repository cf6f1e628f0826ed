-- Predecessors are taken from those that wait before the moves of their reader, and put back after them.
use Rattle.std.proofs.Common.{◌≡◌, refl, sym, ◌∙◌, ap, subst, inl, inr, ℕ, suc, ◌<◌, Bool, true, false, cond, not, List, [], ◌∷◌, length, drop, set, arith}
use Rattle.std.specs.Prelude.{◌⊎◌, ◌&&◌, ◌||◌, nat_eq, slice_index_or}
use Rattle.std.specs.Borrow.{Bor}
use Rattle.std.specs.List.{list_any, AllByRecursion}
use Rattle.std.specs.BTreeMap.{is_at}
use Rattle.std.proofs.lemmas.Bool.{cases_eq, cases_Bool, and_parts, and_from, or_from, eq-eqb, ne_eqb, eqb-true, or_left}
use Rattle.std.proofs.lemmas.Map.Keys.{IsDistinct-head, IsDistinct-tail}
use Rattle.std.proofs.lemmas.List.{length-set, get_or-set_same, get_or-set_other}
use Rattle.iolb_model.specs.Graph.{ComputationGraph}
use Rattle.iolb_model.specs.Game.{marked, vertices, predecessors_at, stands_in}
use Rattle.execution_laws.proofs.Ordered.{All-from}
use Rattle.pebble_game.specs.Graphs.{IsWellFormedGraph}
use Rattle.pebble_game.proofs.Marks.{member-stands}
use Rattle.pebble_replay.specs.Played.{reads}
use Rattle.pebble_replay.specs.Uses.{uses_of, first_or_zero, left_from}
use Rattle.pebble_replay.specs.Queue.{pair_cmp}
use Rattle.pebble_replay.specs.Turns.{IsQueue, current, later, IsBetween, IsHolding, IsReleasing, IsSameTurn}
use Rattle.pebble_replay.specs.declared.hand.Hand.{Hand}
use Rattle.pebble_replay.specs.declared.turn.Turn.{Turn}
use Rattle.pebble_replay.proofs.Marks.{apart-stands}
use Rattle.pebble_replay.proofs.Queue.{at-pair, left-first}
use Rattle.pebble_replay.specs.Queue.{IsSwitched}
use Rattle.pebble_replay.proofs.Steps.{switched-queue, same-queue}

pub hold-step : (graph : ComputationGraph) (v : ℕ) (later : List ℕ) (u : ℕ) (left : List ℕ) (hand new : Hand) → IsHolding graph v later (u ∷ left) hand
    → new.board ≡ hand.board → new.uses ≡ set hand.uses u (drop 1 (slice_index_or hand.uses u []))
    → IsSwitched hand.queue.keys new.queue.keys (first_or_zero (slice_index_or hand.uses u []), u) false → IsHolding graph v later left new
hold-step graph v later u left hand new h board uses switched = record {
  fits = record { red = ap (λ b. length b.board.red) board ∙ h.fits.red; blue = ap (λ b. length b.board.blue) board ∙ h.fits.blue; computed = ap (λ b. length b.board.computed) board ∙ h.fits.computed };
  lists = ap length uses ∙ length-set hand.uses u (drop 1 (slice_index_or hand.uses u [])) ∙ h.lists;
  uses = λ w there. ap (λ (l : List (List ℕ)). slice_index_or l w []) uses ∙ popped w there (cases_eq w u);
  queue = subst (λ b. IsQueue new.queue.keys (λ w. marked b.board.red w && (stands_in left w || not (reads graph w v))) (left_from graph (v ∷ later))) (sym board)
      (switched-queue hand.queue.keys new.queue.keys (λ w. marked hand.board.board.red w && (stands_in (u ∷ left) w || not (reads graph w v)))
      (λ w. marked hand.board.board.red w && (stands_in left w || not (reads graph w v))) (left_from graph (v ∷ later)) (first_or_zero (slice_index_or hand.uses u []), u) false
      h.queue key switched (gone (marked hand.board.board.red u) (stands_in left u) (reads graph u v) apart h.read.0) (λ w other. stays w other));
  read = h.read.1;
  there = h.there.1;
  once = IsDistinct-tail nat_eq u left h.once;
} where
  apart : stands_in left u ≡ false
  apart = apart-stands u left (IsDistinct-head nat_eq u left h.once)

  now : slice_index_or hand.uses u [] ≡ uses_of graph (v ∷ later) u
  now = h.uses u h.there.0 ∙ ap (λ (b : Bool). cond b (uses_of graph (v ∷ later) u) (uses_of graph later u)) (or_left (nat_eq u u) (stands_in left u) (eq-eqb u u refl))

  key : first_or_zero (slice_index_or hand.uses u []) ≡ left_from graph (v ∷ later) u
  key = ap first_or_zero (h.uses u h.there.0 ∙ ap (λ (b : Bool). cond b (uses_of graph (v ∷ later) u) (uses_of graph later u)) (or_left (nat_eq u u) (stands_in left u) (eq-eqb u u refl))) ∙ sym (left-first graph (v ∷ later) u)

  gone : (m s r : Bool) → s ≡ false → r ≡ true → (m && (s || not r)) ≡ false
  gone m true r e f = absurd cc
  gone true false true e f = refl
  gone false false true e f = refl
  gone m false false e f = absurd cc

  skip : (w : ℕ) → (w ≡ u → ⊥) → stands_in (u ∷ left) w ≡ stands_in left w
  skip w other = ap (λ (b : Bool). b || stands_in left w) (ne_eqb w u other)

  stays : (w : ℕ) → (w ≡ u → ⊥) → (marked hand.board.board.red w && (stands_in left w || not (reads graph w v))) ≡ (marked hand.board.board.red w && (stands_in (u ∷ left) w || not (reads graph w v)))
  stays w other = ap (λ (b : Bool). marked hand.board.board.red w && (b || not (reads graph w v))) (sym (skip w other))

  past : drop 1 (uses_of graph (v ∷ later) u) ≡ uses_of graph later u
  past = ap (λ (b : Bool). drop 1 (cond b (suc (length later) ∷ uses_of graph later u) (uses_of graph later u))) h.read.0

  popped : (w : ℕ) → w < vertices graph → (w ≡ u) ⊎ (w ≡ u → ⊥)
      → slice_index_or (set hand.uses u (drop 1 (slice_index_or hand.uses u []))) w [] ≡ cond (stands_in left w) (uses_of graph (v ∷ later) w) (uses_of graph later w)
  popped w there (inl e) =
      ap (λ (x : ℕ). slice_index_or (set hand.uses u (drop 1 (slice_index_or hand.uses u []))) x []) e
      ∙ get_or-set_same hand.uses u (drop 1 (slice_index_or hand.uses u [])) [] (omega (arith, h.lists, h.there.0))
      ∙ ap (drop 1) now ∙ past
      ∙ sym (ap (λ (b : Bool). cond b (uses_of graph (v ∷ later) u) (uses_of graph later u)) apart)
      ∙ sym (ap (λ (x : ℕ). cond (stands_in left x) (uses_of graph (v ∷ later) x) (uses_of graph later x)) e)
  popped w there (inr other) =
      get_or-set_other hand.uses u w (drop 1 (slice_index_or hand.uses u [])) [] other
      ∙ h.uses w there ∙ ap (λ (b : Bool). cond b (uses_of graph (v ∷ later) w) (uses_of graph later w)) (skip w other)

-- at first all predecessors are left
pub hold-first : (graph : ComputationGraph) (v : ℕ) (later : List ℕ) (hand : Hand) → IsWellFormedGraph graph → v < graph.instances → IsBetween graph (v ∷ later) hand
    → IsHolding graph v later (predecessors_at graph v) hand
hold-first graph v later hand well here between = record {
  fits = between.fits;
  lists = between.uses.lists;
  uses = λ w there. between.uses.each w there ∙ by (suc (length later) ∷ uses_of graph later w) (uses_of graph later w) (reads graph w v);
  queue = same-queue hand.queue.keys (λ w. marked hand.board.board.red w) (λ w. marked hand.board.board.red w && (reads graph w v || not (reads graph w v))) (left_from graph (v ∷ later)) between.queue
      (λ w. either (marked hand.board.board.red w) (reads graph w v));
  read = All-from (λ u. reads graph u v ≡ true) (predecessors_at graph v) (λ u m. member-stands (predecessors_at graph v) u m);
  there = well.there v here;
  once = well.different v here;
} where
  by : (more less : List ℕ) (b : Bool) → cond b more less ≡ cond b (cond b more less) less
  by more less true = refl
  by more less false = refl

  either : (m r : Bool) → (m && (r || not r)) ≡ m
  either true true = refl
  either true false = refl
  either false r = refl

-- a red vertex waits again
pub release-step : (graph : ComputationGraph) (later : List ℕ) (u : ℕ) (left : List ℕ) (hand new : Hand) → IsReleasing graph later (u ∷ left) hand → u < vertices graph
    → marked hand.board.board.red u ≡ true → new.board ≡ hand.board → new.uses ≡ hand.uses
    → IsSwitched hand.queue.keys new.queue.keys (first_or_zero (slice_index_or hand.uses u []), u) true → IsReleasing graph later left new
release-step graph later u left hand new h there red board uses switched = record {
  fits = record { red = ap (λ b. length b.board.red) board ∙ h.fits.red; blue = ap (λ b. length b.board.blue) board ∙ h.fits.blue; computed = ap (λ b. length b.board.computed) board ∙ h.fits.computed };
  uses = record { lists = ap length uses ∙ h.uses.lists; each = λ w below. ap (λ (l : List (List ℕ)). slice_index_or l w []) uses ∙ h.uses.each w below };
  sound = λ q m. subst (λ b. (marked b.board.red q.1 && nat_eq q.0 (left_from graph later q.1)) ≡ true) (sym board) (sound_at q (cases_Bool (is_at (pair_cmp k) q)) (sym (switched q) ∙ m));
  full = λ q out on. switched q ∙ full_at q out (subst (λ b. (marked b.board.red q.1 && nat_eq q.0 (left_from graph later q.1)) ≡ true) board on) (cases_Bool (is_at (pair_cmp k) q));
} where
  k : ℕ × ℕ
  k = (first_or_zero (slice_index_or hand.uses u []), u)

  own : first_or_zero (slice_index_or hand.uses u []) ≡ left_from graph later u
  own = ap first_or_zero (h.uses.each u there) ∙ sym (left-first graph later u)

  sound_at : (q : ℕ × ℕ) → (is_at (pair_cmp (first_or_zero (slice_index_or hand.uses u []), u)) q ≡ true) ⊎ (is_at (pair_cmp (first_or_zero (slice_index_or hand.uses u []), u)) q ≡ false)
      → cond (is_at (pair_cmp (first_or_zero (slice_index_or hand.uses u []), u)) q) true (list_any (is_at (pair_cmp q)) hand.queue.keys) ≡ true
      → (marked hand.board.board.red q.1 && nat_eq q.0 (left_from graph later q.1)) ≡ true
  sound_at q (inl on) m =
      let parts = and_parts (nat_eq (first_or_zero (slice_index_or hand.uses u [])) q.0) (nat_eq u q.1) (sym (at-pair (first_or_zero (slice_index_or hand.uses u []), u) q) ∙ on) in
      let same : u ≡ q.1 = eqb-true u q.1 parts.1 in
      let key : first_or_zero (slice_index_or hand.uses u []) ≡ q.0 = eqb-true (first_or_zero (slice_index_or hand.uses u [])) q.0 parts.0 in
      and_from (marked hand.board.board.red q.1) (nat_eq q.0 (left_from graph later q.1)) (subst (λ (x : ℕ). marked hand.board.board.red x ≡ true) same red)
      (eq-eqb q.0 (left_from graph later q.1) (sym key ∙ own ∙ ap (left_from graph later) same))
  sound_at q (inr off) m = h.sound q (sym (ap (λ (b : Bool). cond b true (list_any (is_at (pair_cmp q)) hand.queue.keys)) off) ∙ m)

  full_at : (q : ℕ × ℕ) → stands_in left q.1 ≡ false → (marked hand.board.board.red q.1 && nat_eq q.0 (left_from graph later q.1)) ≡ true
      → (is_at (pair_cmp (first_or_zero (slice_index_or hand.uses u []), u)) q ≡ true) ⊎ (is_at (pair_cmp (first_or_zero (slice_index_or hand.uses u []), u)) q ≡ false)
      → cond (is_at (pair_cmp (first_or_zero (slice_index_or hand.uses u []), u)) q) true (list_any (is_at (pair_cmp q)) hand.queue.keys) ≡ true
  full_at q out on (inl at_it) = ap (λ (b : Bool). cond b true (list_any (is_at (pair_cmp q)) hand.queue.keys)) at_it
  full_at q out on (inr off) = ap (λ (b : Bool). cond b true (list_any (is_at (pair_cmp q)) hand.queue.keys)) off ∙ h.full q (or_from (nat_eq q.1 u) (stands_in left q.1) (ne_eqb q.1 u (λ e. other e)) out) on where
    other : q.1 ≡ u → ⊥
    other e =
        let key : q.0 ≡ left_from graph later q.1 = eqb-true q.0 (left_from graph later q.1) (and_parts (marked hand.board.board.red q.1) (nat_eq q.0 (left_from graph later q.1)) on).1 in
        let here : is_at (pair_cmp (first_or_zero (slice_index_or hand.uses u []), u)) q ≡ true =
        at-pair (first_or_zero (slice_index_or hand.uses u []), u) q
        ∙ and_from (nat_eq (first_or_zero (slice_index_or hand.uses u [])) q.0) (nat_eq u q.1) (eq-eqb (first_or_zero (slice_index_or hand.uses u [])) q.0 (own ∙ ap (left_from graph later) (sym e) ∙ sym key)) (eq-eqb u q.1 (sym e)) in
        cc

-- a turn that stays the same is of the same instance
pub same-instance : (old new : Turn) → IsSameTurn old new → (P : ComputationGraph → ℕ → List ℕ → Type 0) → P old.graph.now (current old) (later old) → P new.graph.now (current new) (later new)
same-instance old new g P h =
    subst (λ (n : ℕ). P new.graph.now (slice_index_or new.order.now n 0) (drop (suc n) new.order.now)) (sym g.place)
    (subst (λ (o : Bor (List ℕ)). P new.graph.now (slice_index_or o.now old.place 0) (drop (suc old.place) o.now)) (sym g.order)
    (subst (λ (gr : Bor ComputationGraph). P gr.now (current old) (later old)) (sym g.graph) h))

join-same : (old mid new : Turn) → IsSameTurn old mid → IsSameTurn mid new → IsSameTurn old new
join-same old mid new g h = record { graph = h.graph ∙ g.graph; order = h.order ∙ g.order; place = h.place ∙ g.place; board = h.board ∙ g.board; moves = h.moves ∙ g.moves }

-- some predecessors of a turn's instance are left to be taken from those that wait
pub record IsHeld (initial self : Turn) (left : List ℕ) : Type 0 where
  pub holding : IsHolding self.graph.now (current self) (later self) left self.hand
  pub same : IsSameTurn initial self

pub held-first : (turn : Turn) → IsWellFormedGraph turn.graph.now → current turn < turn.graph.now.instances → IsBetween turn.graph.now (current turn ∷ later turn) turn.hand
    → IsHeld turn turn (predecessors_at turn.graph.now (current turn))
held-first turn well here between = record {
  holding = hold-first turn.graph.now (current turn) (later turn) turn.hand well here between;
  same = record { graph = refl; order = refl; place = refl; board = refl; moves = refl };
}

-- some vertices of a turn are left to be put among those that wait
pub record IsReleased (initial self : Turn) (left : List ℕ) : Type 0 where
  pub releasing : IsReleasing self.graph.now (later self) left self.hand
  pub there : AllByRecursion (λ u. u < vertices self.graph.now) left
  pub same : IsSameTurn initial self

pub released-step : (initial mid new : Turn) (u : ℕ) (left : List ℕ) → IsReleased initial mid (u ∷ left) → IsReleasing mid.graph.now (later mid) left new.hand → IsSameTurn mid new
    → IsReleased initial new left
released-step initial mid new u left h step same = record {
  releasing = same-instance mid new same (λ g v l. IsReleasing g l left new.hand) step;
  there = same-instance mid new same (λ g v l. AllByRecursion (λ w. w < vertices g) left) h.there.1;
  same = join-same initial mid new h.same same;
}

pub released-first : (turn new : Turn) (v : ℕ) → IsWellFormedGraph turn.graph.now → current turn < turn.graph.now.instances → v ≡ current turn
    → IsReleasing turn.graph.now (later turn) (current turn ∷ predecessors_at turn.graph.now (current turn)) turn.hand
    → ((left : List ℕ) → IsReleasing turn.graph.now (later turn) (v ∷ left) turn.hand → IsReleasing turn.graph.now (later turn) left new.hand)
    → IsSameTurn turn new → IsReleased turn new (predecessors_at turn.graph.now (current turn))
released-first turn new v well here is_current h step same = record {
  releasing = same-instance turn new same (λ g w l. IsReleasing g l (predecessors_at turn.graph.now (current turn)) new.hand)
      (step (predecessors_at turn.graph.now (current turn)) (subst (λ (u : ℕ). IsReleasing turn.graph.now (later turn) (u ∷ predecessors_at turn.graph.now (current turn)) turn.hand) (sym is_current) h));
  there = same-instance turn new same (λ g w l. AllByRecursion (λ u. u < vertices g) (predecessors_at turn.graph.now (current turn))) (well.there (current turn) here);
  same = same;
}
