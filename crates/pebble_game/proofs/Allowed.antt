-- A move is allowed exactly where nothing refuses it.
use Rattle.std.proofs.Common.{◌≡◌, refl, ◌∙◌, ap, ℕ, ◌<◌, Bool, true, false, cond, not, ◌&&◌, List, [], ◌∷◌, ◌++◌, find, Option, Some, None, IsTrue, ◌⊎◌, inl, inr, leb}
use Rattle.std.specs.List.{AllByRecursion}
use Rattle.std.proofs.lemmas.Bool.{leb-false, lt-leb}
use Rattle.iolb_model.specs.declared.game.Move.{Move}
use Rattle.iolb_model.specs.declared.game.Move.TheVariants.{Load, Store, Compute, Drop, Erase}
use Rattle.iolb_model.specs.Graph.{ComputationGraph}
use Rattle.iolb_model.specs.Game.{Board, marked, mark_count, predecessors_at, board_after, IsAllowed, AreAllowed, final_board}
use Rattle.pebble_game.specs.declared.illegal.Illegal.{Illegal}
use Rattle.pebble_game.specs.declared.illegal.Illegal.TheVariants.{NoBlue, NoRed, Computed, Full, InputVertex}
use Rattle.pebble_game.specs.Boards.{refusal_after, refusal}

if_none : (e : Illegal) (b : Bool) → cond b None (Some e) ≡ None → b ≡ true
if_none e true h = refl
if_none e false h = cc

none_if : (e : Illegal) (b : Bool) → b ≡ true → cond b None (Some e) ≡ None
none_if e true h = refl
none_if e false h = cc

load_none : (blue red : Bool) (s n : ℕ) → cond blue (cond (not red && leb s n) (Some Full) None) (Some NoBlue) ≡ None
    → IsTrue blue × (IsTrue red ⊎ (n < s))
load_none true true s n h = (refl, inl refl)
load_none true false s n h = (refl, inr (leb-false s n (unfull (leb s n) h))) where
  unfull : (b : Bool) → cond b (Some Full) None ≡ None → b ≡ false
  unfull true h = cc
  unfull false h = refl
load_none false red s n h = cc

none_load : (blue red : Bool) (s n : ℕ) → IsTrue blue → IsTrue red ⊎ (n < s)
    → cond blue (cond (not red && leb s n) (Some Full) None) (Some NoBlue) ≡ None
none_load true true s n b h = refl
none_load true false s n b (inl h) = cc
none_load true false s n b (inr h) = ap (λ full. cond full (Some Full) None) (lt-leb s n h)
none_load false red s n b h = cc

-- nothing is found where each member has the mark
all_marked : (red : List Bool) (us : List ℕ) → find (λ u. not (marked red u)) us ≡ None → AllByRecursion (λ u. IsTrue (marked red u)) us
all_marked red [] h = tt
all_marked red (u ∷ us) h = let parts = one (marked red u) (find (λ u. not (marked red u)) us) h in (parts.0, all_marked red us parts.1) where
  one : (b : Bool) (rest : Option ℕ) → cond (not b) (Some u) rest ≡ None → (b ≡ true) × (rest ≡ None)
  one true rest h = (refl, h)
  one false rest h = cc

marked_all : (red : List Bool) (us : List ℕ) → AllByRecursion (λ u. IsTrue (marked red u)) us → find (λ u. not (marked red u)) us ≡ None
marked_all red [] h = refl
marked_all red (u ∷ us) h = ap (λ b. cond (not b) (Some u) (find (λ u. not (marked red u)) us)) h.0 ∙ marked_all red us h.1

after_none : (s : ℕ) (board : Board) (found : Option ℕ) → refusal_after s board found ≡ None → (found ≡ None) × (mark_count board.red < s)
after_none s board (Some u) h = cc
after_none s board None h = (refl, leb-false s (mark_count board.red) (unfull (leb s (mark_count board.red)) h)) where
  unfull : (b : Bool) → cond b (Some Full) None ≡ None → b ≡ false
  unfull true h = cc
  unfull false h = refl

none_after : (s : ℕ) (board : Board) (found : Option ℕ) → found ≡ None → mark_count board.red < s → refusal_after s board found ≡ None
none_after s board found e room =
    ap (refusal_after s board) e ∙ ap (λ full. cond full (Some Full) None) (lt-leb s (mark_count board.red) room)

compute_none : (instances v : ℕ) (computed : Bool) (rest : Option Illegal)
    → cond (leb instances v) (Some InputVertex) (cond computed (Some Computed) rest) ≡ None → (v < instances) × (computed ≡ false) × (rest ≡ None)
compute_none instances v computed rest h = let parts = split (leb instances v) computed h in (leb-false instances v parts.0, parts.1, parts.2) where
  split : (input computed : Bool) → cond input (Some InputVertex) (cond computed (Some Computed) rest) ≡ None → (input ≡ false) × (computed ≡ false) × (rest ≡ None)
  split true computed h = cc
  split false true h = cc
  split false false h = (refl, refl, h)

pub refusal-allowed : (graph : ComputationGraph) (s : ℕ) (board : Board) (move : Move) → refusal graph s board move ≡ None → IsAllowed graph s board move
refusal-allowed graph s board (Load v) h = load_none (marked board.blue v) (marked board.red v) s (mark_count board.red) h
refusal-allowed graph s board (Store v) h = if_none NoRed (marked board.red v) h
refusal-allowed graph s board (Compute v) h =
    let parts = compute_none graph.instances v (marked board.computed v) (refusal_after s board (find (λ u. not (marked board.red u)) (predecessors_at graph v))) h in
    let free = after_none s board (find (λ u. not (marked board.red u)) (predecessors_at graph v)) parts.2 in
    (parts.0, parts.1, all_marked board.red (predecessors_at graph v) free.0, free.1)
refusal-allowed graph s board (Drop v) h = if_none NoRed (marked board.red v) h
refusal-allowed graph s board (Erase v) h = if_none NoBlue (marked board.blue v) h

pub allowed-refusal : (graph : ComputationGraph) (s : ℕ) (board : Board) (move : Move) → IsAllowed graph s board move → refusal graph s board move ≡ None
allowed-refusal graph s board (Load v) h = none_load (marked board.blue v) (marked board.red v) s (mark_count board.red) h.0 h.1
allowed-refusal graph s board (Store v) h = none_if NoRed (marked board.red v) h
allowed-refusal graph s board (Compute v) h =
    let found = marked_all board.red (predecessors_at graph v) h.2 in
    ap (λ input. cond input (Some InputVertex) (cond (marked board.computed v) (Some Computed) (refusal_after s board (find (λ u. not (marked board.red u)) (predecessors_at graph v))))) (lt-leb graph.instances v h.0)
    ∙ ap (λ computed. cond computed (Some Computed) (refusal_after s board (find (λ u. not (marked board.red u)) (predecessors_at graph v)))) h.1
    ∙ none_after s board (find (λ u. not (marked board.red u)) (predecessors_at graph v)) found h.3
allowed-refusal graph s board (Drop v) h = none_if NoRed (marked board.red v) h
allowed-refusal graph s board (Erase v) h = none_if NoBlue (marked board.blue v) h

pub refusal-forbidden : (graph : ComputationGraph) (s : ℕ) (board : Board) (move : Move) (illegal : Illegal)
    → refusal graph s board move ≡ Some illegal → ¬ IsAllowed graph s board move
refusal-forbidden graph s board move illegal refused allowed = let e = allowed-refusal graph s board move allowed in cc

-- moves are allowed behind others where they are on the board behind those
pub allowed-append : (graph : ComputationGraph) (s : ℕ) (board : Board) (xs ys : List Move) → AreAllowed graph s board xs
    → AreAllowed graph s (final_board board xs) ys → AreAllowed graph s board (xs ++ ys)
allowed-append graph s board [] ys h k = k
allowed-append graph s board (x ∷ xs) ys h k = (h.0, allowed-append graph s (board_after board x) xs ys h.1 k)
