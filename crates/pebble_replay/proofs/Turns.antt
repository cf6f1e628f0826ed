-- The moves of one instance are allowed, and leave no later use without its word.
use Rattle.std.proofs.Common.{◌≡◌, refl, sym, subst, inl, inr, ℕ, ◌<◌, ◌≤◌, Bool, true, false, cond, List, [], ◌∷◌, ◌++◌, length, set, IsTrue, arith}
use Rattle.std.specs.Prelude.{◌⊎◌}
use Rattle.std.specs.List.{AllByRecursion}
use Rattle.std.proofs.lemmas.Bool.{cases_lt, or_left, false_from_ne_true}
use Rattle.std.proofs.lemmas.List.{length-set}
use Rattle.iolb_model.specs.declared.game.Move.{Move}
use Rattle.iolb_model.specs.declared.game.Move.TheVariants.{Load, Store, Compute}
use Rattle.iolb_model.specs.Graph.{ComputationGraph}
use Rattle.iolb_model.specs.Game.{Board, marked, mark_count, vertices, predecessors_at, stands_in, board_after, AreAllowed, final_board}
use Rattle.execution_laws.proofs.Members.{Member}
use Rattle.execution_laws.proofs.Ordered.{All-from, All-member}
use Rattle.pebble_game.proofs.Allowed.{allowed-append}
use Rattle.pebble_game.specs.Graphs.{IsWellFormedGraph}
use Rattle.pebble_game.proofs.Marks.{member-stands, standing-member, put-here}
use Rattle.pebble_replay.specs.Played.{reads, is_used, room_moves, load_moves, store_moves, compute_moves, instance_moves}
use Rattle.pebble_replay.proofs.Marks.{put-stays}
use Rattle.pebble_replay.proofs.Moves.{final-append, IsReady, loaded-ready, computed-ready}
use Rattle.pebble_replay.proofs.Room.{MakesRoom, room-made}

-- what moves do that load predecessors of instance v: at the end all are red
record Loads (graph : ComputationGraph) (s : ℕ) (done : List ℕ) (v : ℕ) (later : List ℕ) (board : Board) (moves : List Move) : Type 0 where
  allowed : AreAllowed graph s board moves
  ready : IsReady graph s done (v ∷ later) (final_board board moves)
  red : (w : ℕ) → reads graph w v ≡ true → marked (final_board board moves).red w ≡ true

-- what the moves of instance v do
pub record Computes (graph : ComputationGraph) (s : ℕ) (done : List ℕ) (v : ℕ) (later : List ℕ) (board : Board) (moves : List Move) : Type 0 where
  pub allowed : AreAllowed graph s board moves
  pub ready : IsReady graph s (v ∷ done) later (final_board board moves)

module _ (graph : ComputationGraph) (s : ℕ) (well : IsWellFormedGraph graph) (done : List ℕ) (v : ℕ) (later : List ℕ) (there : v < graph.instances)
    (fresh : stands_in done v ≡ false) (enough : length (predecessors_at graph v) < s)
    (sources : (u : ℕ) → reads graph u v ≡ true → u < graph.instances → stands_in done u ≡ true) where
  -- moves after moves
  Loads-append : (board : Board) (xs ys : List Move) → AreAllowed graph s board xs → Loads graph s done v later (final_board board xs) ys → Loads graph s done v later board (xs ++ ys)
  Loads-append board xs ys first rest = record {
    allowed = allowed-append graph s board xs ys first rest.allowed;
    ready = subst (λ (b : Board). IsReady graph s done (v ∷ later) b) (sym (final-append board xs ys)) rest.ready;
    red = λ w read. subst (λ (b : Board). marked b.red w ≡ true) (sym (final-append board xs ys)) (rest.red w read);
  }

  vertex : (u : ℕ) → reads graph u v ≡ true → u < vertices graph
  vertex u read = All-member (λ (w : ℕ). w < vertices graph) (predecessors_at graph v) u (well.there v there) (standing-member (predecessors_at graph v) u read)

  -- a predecessor that isn't red is blue
  blue : (board : Board) (u : ℕ) → IsReady graph s done (v ∷ later) board → reads graph u v ≡ true → marked board.red u ≡ false → marked board.blue u ≡ true
  blue board u ready read off = by (cases_lt u graph.instances) where
    which : (marked board.red u ≡ true) ⊎ (marked board.blue u ≡ true) → marked board.blue u ≡ true
    which (inl h) = absurd cc
    which (inr h) = h

    by : (u < graph.instances) ⊎ (graph.instances ≤ u) → marked board.blue u ≡ true
    by (inl instance) = which (ready.kept u (sources u read instance) (or_left (reads graph u v) (is_used graph later u) read))
    by (inr input) = ready.inputs u input (vertex u read)

  -- which of the predecessors may still be missing
  abbrev IsWaiting : Board → List ℕ → Type 0
  IsWaiting board us = (w : ℕ) → reads graph w v ≡ true → Member w us ⊎ (marked board.red w ≡ true)

  loads : (us : List ℕ) (board : Board) → IsReady graph s done (v ∷ later) board → ((w : ℕ) → Member w us → reads graph w v ≡ true)
      → IsWaiting board us → Loads graph s done v later board (load_moves graph s later v board us)
  loads [] board ready read waiting = record { allowed = tt; ready = ready; red = λ w h. which w (waiting w h) } where
    which : (w : ℕ) → ⊥ ⊎ (marked board.red w ≡ true) → marked board.red w ≡ true
    which w (inl h) = absurd h
    which w (inr h) = h
  loads (u ∷ us) board ready read waiting =
      by (marked board.red u) refl (λ (w : IsWaiting board us). loads us board ready (λ x m. read x (inr m)) w)
      (λ (b : Board) (r : IsReady graph s done (v ∷ later) b) (w : IsWaiting b us). loads us b r (λ x m. read x (inr m)) w) where
        moves : List Move
        moves = room_moves graph s later v board ++ Load u ∷ []

        on_it : marked board.red u ≡ true → IsWaiting board us
        on_it red w h = which (waiting w h) where
          which : Member w (u ∷ us) ⊎ (marked board.red w ≡ true) → Member w us ⊎ (marked board.red w ≡ true)
          which (inl (inl e)) = inr (subst (λ (x : ℕ). marked board.red x ≡ true) (sym e) red)
          which (inl (inr m)) = inl m
          which (inr k) = inr k

        by : (b : Bool) → marked board.red u ≡ b → (IsWaiting board us → Loads graph s done v later board (load_moves graph s later v board us))
            → ((b : Board) → IsReady graph s done (v ∷ later) b → IsWaiting b us → Loads graph s done v later b (load_moves graph s later v b us))
            → Loads graph s done v later board (cond b (load_moves graph s later v board us) ((room_moves graph s later v board ++ Load u ∷ []) ++ load_moves graph s later v (final_board board (room_moves graph s later v board ++ Load u ∷ [])) us))
        by true red here next = here (on_it red)
        by false off here next =
            let room : MakesRoom graph s done v later board (room_moves graph s later v board) = room-made graph s done v later board ready enough in
            let cleared : Board = final_board board (room_moves graph s later v board) in
            let still : marked cleared.red u ≡ false = off_still cleared room.fewer in
            let is_blue : marked cleared.blue u ≡ true = blue cleared u room.ready (read u (inl refl)) still in
            let final : final_board board (room_moves graph s later v board ++ Load u ∷ []) ≡ board_after cleared (Load u) = final-append board (room_moves graph s later v board) (Load u ∷ []) in
            let there : u < length cleared.red = omega (arith, vertex u (read u (inl refl)), room.ready.fits.red) in
            let put : marked (board_after cleared (Load u)).red u ≡ true = put-here cleared.red u there in
            let waits : IsWaiting (board_after cleared (Load u)) us = λ w h. which cleared room.holds put w h (waiting w h) in
            Loads-append board (room_moves graph s later v board ++ Load u ∷ []) (load_moves graph s later v (final_board board (room_moves graph s later v board ++ Load u ∷ [])) us)
            (allowed-append graph s board (room_moves graph s later v board) (Load u ∷ []) room.allowed ((is_blue, inr room.space), tt))
            (next (final_board board (room_moves graph s later v board ++ Load u ∷ []))
            (subst (λ (b : Board). IsReady graph s done (v ∷ later) b) (sym final) (loaded-ready graph s done (v ∷ later) cleared u room.ready room.space))
            (subst (λ (b : Board). IsWaiting b us) (sym final) waits)) where
              off_still : (cleared : Board) → ((w : ℕ) → marked cleared.red w ≡ true → marked board.red w ≡ true) → marked cleared.red u ≡ false
              off_still cleared fewer = false_from_ne_true (marked cleared.red u) (λ on. let before : marked board.red u ≡ true = fewer u on in cc)

              which : (cleared : Board) → ((w : ℕ) → reads graph w v ≡ true → marked board.red w ≡ true → marked cleared.red w ≡ true)
                  → marked (set cleared.red u true) u ≡ true → (w : ℕ) → reads graph w v ≡ true
                  → Member w (u ∷ us) ⊎ (marked board.red w ≡ true) → Member w us ⊎ (marked (set cleared.red u true) w ≡ true)
              which cleared holds put w h (inl (inl e)) = inr (subst (λ (x : ℕ). marked (set cleared.red u true) x ≡ true) (sym e) put)
              which cleared holds put w h (inl (inr m)) = inl m
              which cleared holds put w h (inr k) = inr (put-stays cleared.red u w (holds w h k))

  -- after the computation a last writer is stored
  stores : (cleared : Board) → IsReady graph s done (v ∷ later) cleared → mark_count cleared.red < s
      → Computes graph s done v later (board_after cleared (Compute v)) (store_moves graph v)
  stores cleared ready space = by (marked graph.last_writers v) refl where
    vertex_here : v < vertices graph
    vertex_here = omega (arith, there)

    here : marked (set cleared.red v true) v ≡ true
    here = put-here cleared.red v (omega (arith, vertex_here, ready.fits.red))

    by : (b : Bool) → marked graph.last_writers v ≡ b → Computes graph s done v later (board_after cleared (Compute v)) (cond b (Store v ∷ []) [])
    by true e = record {
      allowed = (here, tt);
      ready = computed-ready graph s done v later cleared (set cleared.blue v true) ready vertex_here space (length-set cleared.blue v true)
          (λ w on. put-stays cleared.blue v w on) (λ last. put-here cleared.blue v (omega (arith, vertex_here, ready.fits.blue)));
    }
    by false e = record {
      allowed = tt;
      ready = computed-ready graph s done v later cleared cleared.blue ready vertex_here space refl (λ w on. on) (λ last. absurd cc);
    }

  -- an instance whose predecessors are red is computed
  computes : (board : Board) → IsReady graph s done (v ∷ later) board → ((w : ℕ) → reads graph w v ≡ true → marked board.red w ≡ true)
      → Computes graph s done v later board (compute_moves graph s later v board)
  computes board ready red =
      let room : MakesRoom graph s done v later board (room_moves graph s later v board) = room-made graph s done v later board ready enough in
      let cleared : Board = final_board board (room_moves graph s later v board) in
      let stored : Computes graph s done v later (board_after cleared (Compute v)) (store_moves graph v) = stores cleared room.ready room.space in
      let all_red : AllByRecursion (λ (u : ℕ). IsTrue (marked cleared.red u)) (predecessors_at graph v) =
      All-from (λ (u : ℕ). IsTrue (marked cleared.red u)) (predecessors_at graph v)
      (λ u m. room.holds u (member-stands (predecessors_at graph v) u m) (red u (member-stands (predecessors_at graph v) u m))) in
      record {
        allowed = allowed-append graph s board (room_moves graph s later v board) (Compute v ∷ store_moves graph v) room.allowed
            ((there, room.ready.undone v fresh, all_red, room.space), stored.allowed);
        ready = subst (λ (b : Board). IsReady graph s (v ∷ done) later b) (sym (final-append board (room_moves graph s later v board) (Compute v ∷ store_moves graph v))) stored.ready;
      }

  -- so the moves of an instance are allowed
  pub turn : (board : Board) → IsReady graph s done (v ∷ later) board → Computes graph s done v later board (instance_moves graph s later v board)
  turn board ready =
      let loading : List Move = load_moves graph s later v board (predecessors_at graph v) in
      let loaded : Loads graph s done v later board loading =
      loads (predecessors_at graph v) board ready (λ w m. member-stands (predecessors_at graph v) w m) (λ w read. inl (standing-member (predecessors_at graph v) w read)) in
      let computed : Computes graph s done v later (final_board board loading) (compute_moves graph s later v (final_board board loading)) =
      computes (final_board board loading) loaded.ready loaded.red in
      record {
        allowed = allowed-append graph s board loading (compute_moves graph s later v (final_board board loading)) loaded.allowed computed.allowed;
        ready = subst (λ (b : Board). IsReady graph s (v ∷ done) later b) (sym (final-append board loading (compute_moves graph s later v (final_board board loading)))) computed.ready;
      }
