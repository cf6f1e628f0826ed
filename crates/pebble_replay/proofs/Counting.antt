-- How many moves of a kind are made: at most two more for an instance than it has predecessors.
use Rattle.std.proofs.Common.{◌≡◌, refl, sym, ◌∙◌, ap, ℕ, zero, suc, ◌+◌, ◌*◌, ◌<◌, ◌≤◌, ◌^◌, Bool, true, false, cond, not, ◌&&◌, List, [], ◌∷◌, ◌++◌, length, drop, get_or, count_by, Option, Some, None, arith}
use Rattle.std.specs.List.{AllByRecursion}
use Rattle.std.proofs.lemmas.List.{append_assoc, append-nil}
use Rattle.std.proofs.lemmas.List.Sums.{sum_by-append, sum_by-cons}
use Rattle.std.proofs.lemmas.Map.Steps.{length-le_from_distinct_below}
use Rattle.std.proofs.Math.Nat.{mul-le-mul}
use Rattle.iolb_model.specs.declared.game.Move.{Move}
use Rattle.iolb_model.specs.declared.game.Move.TheVariants.{Load, Store, Compute, Drop}
use Rattle.iolb_model.specs.Graph.{ComputationGraph}
use Rattle.iolb_model.specs.Game.{Board, marked, vertices, predecessors_at, first_board, final_board, is_load, loads, is_store, stores}
use Rattle.execution_laws.proofs.Ordered.{All-member}
use Rattle.pebble_game.specs.Boards.{is_full}
use Rattle.pebble_game.specs.Graphs.{IsWellFormedGraph, IsGraph}
use Rattle.pebble_game.proofs.Marks.{standing-member}
use Rattle.pebble_replay.specs.Played.{is_used, victim, moves_out, room_moves, load_moves, store_moves, compute_moves, instance_moves, moves_of_first, is_compute, computes}
use Rattle.pebble_replay.specs.Player.{moves_before, moves_at}
use Rattle.pebble_replay.specs.Order.{HoldsEachOnce}
use Rattle.pebble_replay.proofs.Moves.{final-append}
use Rattle.pebble_replay.proofs.UsesIn.{order-short}

pub count-append : (kind : Move → Bool) (xs ys : List Move) → count_by kind (xs ++ ys) ≡ count_by kind xs + count_by kind ys
count-append kind xs ys = sum_by-append (λ (x : Move). cond (kind x) 1 0) xs ys

count-cons : (kind : Move → Bool) (m : Move) (moves : List Move) → count_by kind (m ∷ moves) ≡ cond (kind m) 1 0 + count_by kind moves
count-cons kind m moves = sum_by-cons (λ (x : Move). cond (kind x) 1 0) m moves

abbrev counted : Bool → ℕ
counted b = cond b 1 0

-- what each store, load and computation counts, and a drop counts nothing
record IsKind (kind : Move → Bool) : Type 0 where
  stored : ℕ
  loaded : ℕ
  computed : ℕ
  store : (u : ℕ) → counted (kind (Store u)) ≡ stored
  load : (u : ℕ) → counted (kind (Load u)) ≡ loaded
  compute : (u : ℕ) → counted (kind (Compute u)) ≡ computed
  dropped : (u : ℕ) → counted (kind (Drop u)) ≡ 0
  few : stored + loaded ≤ 1
  few_more : stored + computed ≤ 1

loads-kind : IsKind is_load
loads-kind = record { stored = 0; loaded = 1; computed = 0; store = λ u. refl; load = λ u. refl; compute = λ u. refl; dropped = λ u. refl; few = omega arith; few_more = omega arith }

stores-kind : IsKind is_store
stores-kind = record { stored = 1; loaded = 0; computed = 0; store = λ u. refl; load = λ u. refl; compute = λ u. refl; dropped = λ u. refl; few = omega arith; few_more = omega arith }

computes-kind : IsKind is_compute
computes-kind = record { stored = 0; loaded = 0; computed = 1; store = λ u. refl; load = λ u. refl; compute = λ u. refl; dropped = λ u. refl; few = omega arith; few_more = omega arith }

module _ (graph : ComputationGraph) (s : ℕ) (kind : Move → Bool) (is_kind : IsKind kind) where
  out-few : (later : List ℕ) (board : Board) (o : Option ℕ) → count_by kind (moves_out graph later board o) ≤ is_kind.stored
  out-few later board None = omega arith
  out-few later board (Some u) = by (is_used graph later u && not (marked board.blue u)) where
    by : (b : Bool) → count_by kind (cond b (Store u ∷ Drop u ∷ []) (Drop u ∷ [])) ≤ is_kind.stored
    by true = omega (arith, count-cons kind (Store u) (Drop u ∷ []), count-cons kind (Drop u) [], is_kind.store u, is_kind.dropped u)
    by false = omega (arith, count-cons kind (Drop u) [], is_kind.dropped u)

  room-few : (later : List ℕ) (v : ℕ) (board : Board) → count_by kind (room_moves graph s later v board) ≤ is_kind.stored
  room-few later v board = by (is_full s board) where
    by : (b : Bool) → count_by kind (cond b (moves_out graph later board (victim graph later v board)) []) ≤ is_kind.stored
    by true = out-few later board (victim graph later v board)
    by false = omega arith

  loads-few : (later : List ℕ) (v : ℕ) (us : List ℕ) (board : Board) → count_by kind (load_moves graph s later v board us) ≤ length us
  loads-few later v [] board = omega arith
  loads-few later v (u ∷ us) board = by (marked board.red u) (loads-few later v us board) (loads-few later v us (final_board board (room_moves graph s later v board ++ Load u ∷ []))) where
    by : (b : Bool) → count_by kind (load_moves graph s later v board us) ≤ length us
        → count_by kind (load_moves graph s later v (final_board board (room_moves graph s later v board ++ Load u ∷ [])) us) ≤ length us
        → count_by kind (cond b (load_moves graph s later v board us) ((room_moves graph s later v board ++ Load u ∷ []) ++ load_moves graph s later v (final_board board (room_moves graph s later v board ++ Load u ∷ [])) us)) ≤ suc (length us)
    by true h k = omega (arith, h)
    by false h k =
        omega (
          arith,
          k,
          count-append kind (room_moves graph s later v board ++ Load u ∷ []) (load_moves graph s later v (final_board board (room_moves graph s later v board ++ Load u ∷ [])) us),
          count-append kind (room_moves graph s later v board) (Load u ∷ []),
          count-cons kind (Load u) [],
          is_kind.load u,
          room-few later v board,
          is_kind.few,
        )

  store-few : (v : ℕ) → count_by kind (store_moves graph v) ≤ is_kind.stored
  store-few v = by (marked graph.last_writers v) where
    by : (b : Bool) → count_by kind (cond b (Store v ∷ []) []) ≤ is_kind.stored
    by true = omega (arith, count-cons kind (Store v) [], is_kind.store v)
    by false = omega arith

  computes-few : (later : List ℕ) (v : ℕ) (board : Board) → count_by kind (compute_moves graph s later v board) ≤ 2
  computes-few later v board =
      omega (
        arith,
        count-append kind (room_moves graph s later v board) (Compute v ∷ store_moves graph v),
        count-cons kind (Compute v) (store_moves graph v),
        is_kind.compute v,
        room-few later v board,
        store-few v,
        is_kind.few,
        is_kind.few_more,
      )

  instance-few : (later : List ℕ) (v : ℕ) (board : Board) → count_by kind (instance_moves graph s later v board) ≤ length (predecessors_at graph v) + 2
  instance-few later v board =
      let loading : List Move = load_moves graph s later v board (predecessors_at graph v) in
      omega (arith, count-append kind loading (compute_moves graph s later v (final_board board loading)), loads-few later v (predecessors_at graph v) board, computes-few later v (final_board board loading))

  first-few : (many : ℕ) (n : ℕ) (order : List ℕ) (board : Board) → AllByRecursion (λ v. length (predecessors_at graph v) ≤ many) order
      → count_by kind (moves_of_first graph s n order board) ≤ n * (many + 2)
  first-few many zero order board h = omega arith
  first-few many (suc n) [] board h = omega arith
  first-few many (suc n) (v ∷ later) board h =
      let moves : List Move = instance_moves graph s later v board in
      omega (arith, count-append kind moves (moves_of_first graph s n later (final_board board moves)), instance-few later v board, h.0, first-few many n later (final_board board moves) h.1)

-- an instance has no more predecessors than there are vertices
preds-few : (graph : ComputationGraph) → IsWellFormedGraph graph → (order : List ℕ) → AllByRecursion (λ v. v < graph.instances) order
    → AllByRecursion (λ v. length (predecessors_at graph v) ≤ vertices graph) order
preds-few graph well [] h = tt
preds-few graph well (v ∷ order) h = (
  length-le_from_distinct_below (predecessors_at graph v) (vertices graph) (well.different v h.0)
      (λ q m. All-member (λ u. u < vertices graph) (predecessors_at graph v) q (well.there v h.0) (standing-member (predecessors_at graph v) q m)),
  preds-few graph well order h.1,
)

-- so each count has 64 bits
few-moves : (graph : ComputationGraph) (s : ℕ) (kind : Move → Bool) → IsKind kind → IsGraph graph → (order : List ℕ) → HoldsEachOnce graph order → (place : ℕ) → place ≤ length order
    → count_by kind (moves_before graph s order place) < 2 ^ 64
few-moves graph s kind is_kind well order holds place within =
    let counted : count_by kind (moves_before graph s order place) ≤ place * (vertices graph + 2) =
    first-few graph s kind is_kind (vertices graph) place order (first_board graph) (preds-few graph well.0 order holds.there) in
    let many : place ≤ 4294967295 = omega (arith, within, order-short graph order holds, well.1) in
    let wide : vertices graph + 2 ≤ 4294967297 = omega (arith, well.1) in
    let whole : place * (vertices graph + 2) ≤ 4294967295 * 4294967297 = mul-le-mul many wide in
    omega (arith, counted, whole)

pub few-loads : (graph : ComputationGraph) (s : ℕ) → IsGraph graph → (order : List ℕ) → HoldsEachOnce graph order → (place : ℕ) → place ≤ length order → loads (moves_before graph s order place) < 2 ^ 64
few-loads graph s = few-moves graph s is_load loads-kind

pub few-stores : (graph : ComputationGraph) (s : ℕ) → IsGraph graph → (order : List ℕ) → HoldsEachOnce graph order → (place : ℕ) → place ≤ length order → stores (moves_before graph s order place) < 2 ^ 64
few-stores graph s = few-moves graph s is_store stores-kind

pub few-computes : (graph : ComputationGraph) (s : ℕ) → IsGraph graph → (order : List ℕ) → HoldsEachOnce graph order → (place : ℕ) → place ≤ length order → computes (moves_before graph s order place) < 2 ^ 64
few-computes graph s = few-moves graph s is_compute computes-kind

-- the moves of one instance more
first-more : (graph : ComputationGraph) (s : ℕ) (n : ℕ) (order : List ℕ) (board : Board) → n < length order
    → moves_of_first graph s (suc n) order board
    ≡ moves_of_first graph s n order board ++ instance_moves graph s (drop (suc n) order) (get_or order n 0) (final_board board (moves_of_first graph s n order board))
first-more graph s n [] board below = absurd (omega (arith, below))
first-more graph s zero (v ∷ later) board below = append-nil (instance_moves graph s later v board)
first-more graph s (suc n) (v ∷ later) board below =
    let moves : List Move = instance_moves graph s later v board in
    let before : List Move = moves_of_first graph s n later (final_board board moves) in
    ap (λ (ms : List Move). moves ++ ms) (first-more graph s n later (final_board board moves) (omega (arith, below)))
    ∙ sym (append_assoc moves before (instance_moves graph s (drop (suc n) later) (get_or later n 0) (final_board (final_board board moves) before)))
    ∙ ap (λ (b : Board). (moves ++ before) ++ instance_moves graph s (drop (suc n) later) (get_or later n 0) b) (sym (final-append board moves before))

pub before-more : (graph : ComputationGraph) (s : ℕ) (order : List ℕ) (place : ℕ) → place < length order
    → moves_before graph s order (suc place) ≡ moves_before graph s order place ++ moves_at graph s order place
before-more graph s order place below = first-more graph s place order (first_board graph) below
