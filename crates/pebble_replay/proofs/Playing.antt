-- An order that can be played is played by a complete pebbling.
use Rattle.std.proofs.Common.{◌≡◌, refl, sym, ◌∙◌, subst, inl, inr, ℕ, ◌<◌, Bool, true, false, cond, List, [], ◌∷◌, length, replicate, find, Option, Some, None, arith}
use Rattle.std.specs.Prelude.{◌⊎◌, ◌||◌, nat_eq, nat_lt}
use Rattle.std.specs.List.{AllByRecursion, IsDistinct}
use Rattle.std.proofs.lemmas.Bool.{cases_eq, or_cases, or_left, or_right, eq-eqb, eqb-true, ne_eqb, or_from, false_from_ne_true}
use Rattle.std.proofs.lemmas.Bool as bools
use Rattle.std.proofs.lemmas.List.{length-replicate, length-append}
use Rattle.iolb_model.specs.declared.game.Move.{Move}
use Rattle.iolb_model.specs.Graph.{ComputationGraph}
use Rattle.iolb_model.specs.Game.{Board, vertices, predecessors_at, stands_in, first_board, AreAllowed, final_board}
use Rattle.execution_laws.proofs.Ordered.{All-member}
use Rattle.pebble_game.proofs.Allowed.{allowed-append}
use Rattle.pebble_game.specs.Graphs.{IsWellFormedGraph}
use Rattle.pebble_game.proofs.Marks.{unmarked-at, standing-member, none-marked}
use Rattle.pebble_replay.specs.declared.fault.ReplayFault.{ReplayFault}
use Rattle.pebble_replay.specs.Order.{HoldsEachOnce, late_source, late_or, order_fault, need, too_small, first_of, replay_fault}
use Rattle.pebble_replay.specs.Played.{reads, instance_moves, moves_of_first}
use Rattle.pebble_replay.specs.Complete.{PlayedIsComplete}
use Rattle.pebble_replay.proofs.Marks.{first-blue}
use Rattle.pebble_replay.proofs.Moves.{final-append, IsReady, second-holds}
use Rattle.pebble_replay.proofs.Victim.{find-none_at}
use Rattle.pebble_replay.proofs.Turns.{Computes, turn}

-- what holds of the rest of an order that can be played, once some instances were computed
pub record IsPlayable (graph : ComputationGraph) (s : ℕ) (done rest : List ℕ) : Type 0 where
  pub there : AllByRecursion (λ v. v < graph.instances) rest
  pub once : IsDistinct nat_eq rest
  pub fresh : (v : ℕ) → stands_in rest v ≡ true → stands_in done v ≡ false
  pub each : (v : ℕ) → v < graph.instances → (stands_in done v ≡ true) ⊎ (stands_in rest v ≡ true)
  pub order : order_fault graph rest ≡ None
  pub size : find (λ v. nat_lt s (need graph v)) rest ≡ None

late_none : (rest : Option ReplayFault) (v : ℕ) (found : Option ℕ) → late_or rest v found ≡ None → (found ≡ None) × (rest ≡ None)
late_none rest v None e = (refl, e)
late_none rest v (Some u) e = absurd cc

small_none : (b : Bool) (v : ℕ) (rest : Option ℕ) → cond b (Some v) rest ≡ None → (b ≡ false) × (rest ≡ None)
small_none true v rest e = absurd cc
small_none false v rest e = (refl, e)

-- a member of the rest isn't the head
apart_from : (v : ℕ) (later : List ℕ) (w : ℕ) → AllByRecursion (λ (y : ℕ). nat_eq v y ≡ false) later → stands_in later w ≡ true → w ≡ v → ⊥
apart_from v later w apart m e =
    let off : nat_eq v w ≡ false = All-member (λ (y : ℕ). nat_eq v y ≡ false) later w apart (standing-member later w m) in
    let on : nat_eq v w ≡ true = eq-eqb v w (sym e) in
    cc

module _ (graph : ComputationGraph) (s : ℕ) (well : IsWellFormedGraph graph) where
  -- the sources of the next instance were computed
  pub sources-done : (done : List ℕ) (v : ℕ) (later : List ℕ) → IsPlayable graph s done (v ∷ later) → (u : ℕ) → reads graph u v ≡ true → u < graph.instances → stands_in done u ≡ true
  sources-done done v later playable u read instance = by (playable.each u instance) where
    before : u < v
    before = All-member (λ (w : ℕ). w < graph.instances → w < v) (predecessors_at graph v) u (well.earlier v playable.there.0) (standing-member (predecessors_at graph v) u read) instance

    not_later : stands_in later u ≡ false
    not_later = find-none_at (stands_in later) (predecessors_at graph v) u (late_none (order_fault graph later) v (late_source graph later v) playable.order).0 (standing-member (predecessors_at graph v) u read)

    by : (stands_in done u ≡ true) ⊎ (stands_in (v ∷ later) u ≡ true) → stands_in done u ≡ true
    by (inl h) = h
    by (inr h) = let now : stands_in later u ≡ true = second-holds (nat_eq u v) (stands_in later u) (ne_eqb u v (λ e. omega (arith, e, before))) h in let never : stands_in later u ≡ false = not_later in absurd cc

  -- after an instance the rest can still be played
  pub next-playable : (done : List ℕ) (v : ℕ) (later : List ℕ) → IsPlayable graph s done (v ∷ later) → IsPlayable graph s (v ∷ done) later
  unfolding IsDistinct
  next-playable done v later playable = record {
    there = playable.there.1;
    once = playable.once.1;
    fresh = λ w m. or_from (nat_eq w v) (stands_in done w) (ne_eqb w v (apart_from v later w playable.once.0 m)) (playable.fresh w (or_right (nat_eq w v) (stands_in later w) m));
    each = λ w instance. by w (playable.each w instance);
    order = (late_none (order_fault graph later) v (late_source graph later v) playable.order).1;
    size = (small_none (nat_lt s (need graph v)) v (find (λ w. nat_lt s (need graph w)) later) playable.size).1;
  } where
    which : (w : ℕ) → (nat_eq w v ≡ true) ⊎ (stands_in later w ≡ true) → (stands_in (v ∷ done) w ≡ true) ⊎ (stands_in later w ≡ true)
    which w (inl e) = inl (or_left (nat_eq w v) (stands_in done w) e)
    which w (inr m) = inr m

    by : (w : ℕ) → (stands_in done w ≡ true) ⊎ (stands_in (v ∷ later) w ≡ true) → (stands_in (v ∷ done) w ≡ true) ⊎ (stands_in later w ≡ true)
    by w (inl h) = inl (or_right (nat_eq w v) (stands_in done w) h)
    by w (inr h) = which w (or_cases (nat_eq w v) (stands_in later w) h)

  -- the next instance has enough red pebbles
  pub enough : (done : List ℕ) (v : ℕ) (later : List ℕ) → IsPlayable graph s done (v ∷ later) → length (predecessors_at graph v) < s
  enough done v later playable =
      let small : nat_lt s (need graph v) ≡ false = (small_none (nat_lt s (need graph v)) v (find (λ w. nat_lt s (need graph w)) later) playable.size).0 in
      omega (arith, bools.ltb-false s (need graph v) small)

  -- and its moves are allowed
  pub next-turn : (done : List ℕ) (v : ℕ) (later : List ℕ) (board : Board) → IsPlayable graph s done (v ∷ later) → IsReady graph s done (v ∷ later) board
      → Computes graph s done v later board (instance_moves graph s later v board)
  next-turn done v later board playable ready =
      turn graph s well done v later playable.there.0 (playable.fresh v (or_left (nat_eq v v) (stands_in later v) (eq-eqb v v refl)))
      (enough done v later playable) (sources-done done v later playable) board ready

  -- what the moves of the rest do
  record Plays (done rest : List ℕ) (board : Board) (moves : List Move) : Type 0 where
    allowed : AreAllowed graph s board moves
    all : List ℕ
    ready : IsReady graph s all [] (final_board board moves)
    each : (v : ℕ) → (stands_in done v ≡ true) ⊎ (stands_in rest v ≡ true) → stands_in all v ≡ true

  plays : (done rest : List ℕ) (board : Board) → IsPlayable graph s done rest → IsReady graph s done rest board → Plays done rest board (moves_of_first graph s (length rest) rest board)
  plays done [] board playable ready = record { allowed = tt; all = done; ready = ready; each = λ v h. which v h } where
    which : (v : ℕ) → (stands_in done v ≡ true) ⊎ (stands_in [] v ≡ true) → stands_in done v ≡ true
    which v (inl h) = h
    which v (inr h) = absurd cc
  plays done (v ∷ later) board playable ready =
      let moves : List Move = instance_moves graph s later v board in
      let now : Computes graph s done v later board moves = next-turn done v later board playable ready in
      let rest : Plays (v ∷ done) later (final_board board moves) (moves_of_first graph s (length later) later (final_board board moves)) =
      plays (v ∷ done) later (final_board board moves) (next-playable done v later playable) now.ready in
      record {
        allowed = allowed-append graph s board moves (moves_of_first graph s (length later) later (final_board board moves)) now.allowed rest.allowed;
        all = rest.all;
        ready = subst (λ (b : Board). IsReady graph s rest.all [] b) (sym (final-append board moves (moves_of_first graph s (length later) later (final_board board moves)))) rest.ready;
        each = λ w h. rest.each w (by w h);
      } where
        which : (w : ℕ) → (nat_eq w v ≡ true) ⊎ (stands_in later w ≡ true) → (stands_in (v ∷ done) w ≡ true) ⊎ (stands_in later w ≡ true)
        which w (inl e) = inl (or_left (nat_eq w v) (stands_in done w) e)
        which w (inr m) = inr m

        by : (w : ℕ) → (stands_in done w ≡ true) ⊎ (stands_in (v ∷ later) w ≡ true) → (stands_in (v ∷ done) w ≡ true) ⊎ (stands_in later w ≡ true)
        by w (inl h) = inl (or_right (nat_eq w v) (stands_in done w) h)
        by w (inr h) = which w (or_cases (nat_eq w v) (stands_in later w) h)

  -- before the first move
  first-ready : (rest : List ℕ) → IsReady graph s [] rest (first_board graph)
  first-ready rest = record {
    fits = record {
      red = length-replicate (vertices graph) false;
      blue = length-append (replicate graph.instances false) (replicate graph.inputs true)
          ∙ omega (arith, length-replicate graph.instances false, length-replicate graph.inputs true);
      computed = length-replicate (vertices graph) false;
    };
    room = omega (arith, none-marked (vertices graph));
    undone = λ v h. unmarked-at (vertices graph) v;
    computed = λ v h. absurd cc;
    inputs = λ u past below. first-blue graph.instances graph.inputs u past below;
    kept = λ u h used. absurd cc;
    stored = λ u h last. absurd cc;
  }

-- an order that nothing keeps from being played can be played
pub playable-from : (graph : ComputationGraph) (s : ℕ) (order : List ℕ) → HoldsEachOnce graph order → replay_fault graph s order ≡ None → IsPlayable graph s [] order
playable-from graph s order holds e =
    let parts = both (order_fault graph order) (find (λ v. nat_lt s (need graph v)) order) e in
    record {
      there = holds.there;
      once = holds.once;
      fresh = λ v m. refl;
      each = λ v instance. inr (holds.each v instance);
      order = parts.0;
      size = parts.1;
    } where
      both : (late : Option ReplayFault) (found : Option ℕ) → first_of late (too_small graph found) ≡ None → (late ≡ None) × (found ≡ None)
      both None None f = (refl, refl)
      both None (Some v) f = absurd cc
      both (Some fault) found f = absurd cc

pub played-complete : PlayedIsComplete
played-complete graph order s well holds e =
    let all = plays graph s well [] order (first_board graph) (playable-from graph s order holds e) (first-ready graph s well order) in
    record {
      allowed = all.allowed;
      computed = λ v h. all.ready.computed v (all.each v (inr (holds.each v h)));
      stored = λ v h last. all.ready.stored v (all.each v (inr (holds.each v h))) last;
    }
