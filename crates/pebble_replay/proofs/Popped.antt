-- Room is made by the first key of the queue.
use Rattle.std.proofs.Common.{◌≡◌, refl, sym, ◌∙◌, ap, subst, ℕ, ◌<◌, Bool, true, false, cond, not, List, [], ◌∷◌, length, set, IsTrue, arith}
use Rattle.std.specs.Prelude.{◌&&◌, nat_lt, Option, Some, None, slice_index_or}
use Rattle.std.specs.List.{list_any}
use Rattle.std.specs.Ordering.{is_gt}
use Rattle.std.specs.BTreeMap.{is_at}
use Rattle.std.proofs.lemmas.Bool.{and_parts, and_left}
use Rattle.iolb_model.specs.declared.game.Move.{Move}
use Rattle.iolb_model.specs.declared.game.Move.TheVariants.{Store, Drop}
use Rattle.iolb_model.specs.Graph.{ComputationGraph}
use Rattle.iolb_model.specs.Game.{Board, marked, vertices, final_board}
use Rattle.pebble_game.proofs.Marks.{taken-here, marked-below}
use Rattle.pebble_game.specs.Boards.{IsBoardOf, is_full}
use Rattle.pebble_replay.specs.Played.{reads, is_used, may_go, victim, moves_out, room_moves}
use Rattle.pebble_replay.specs.Uses.{left_from}
use Rattle.pebble_replay.specs.Queue.{pair_cmp}
use Rattle.pebble_replay.specs.Turns.{IsQueue, IsInTurn}
use Rattle.pebble_replay.specs.declared.hand.Hand.{Hand}
use Rattle.pebble_replay.proofs.Marks.{taken-other}
use Rattle.pebble_replay.proofs.Queue.{known, nobody, first-goes, left-used}
use Rattle.pebble_replay.specs.Queue.{IsSwitched}
use Rattle.pebble_replay.proofs.Steps.{switched-queue, final-fits}

-- the moves by which a vertex goes, by what is left from its next use on
abbrev pub out_by_left : Board → ℕ × ℕ → List Move
out_by_left board k = cond (nat_lt 0 k.0 && not (marked board.blue k.1)) (Store k.1 ∷ Drop k.1 ∷ []) (Drop k.1 ∷ [])

pub no-room : (graph : ComputationGraph) (s : ℕ) (later : List ℕ) (v : ℕ) (board : Board) (keys : List (ℕ × ℕ))
    → IsQueue keys (may_go graph v board) (left_from graph later) → keys ≡ [] → [] ≡ room_moves graph s later v board
no-room graph s later v board keys queue e = sym (ap (λ (o : Option ℕ). cond (is_full s board) (moves_out graph later board o) []) (nobody graph later v board keys queue e) ∙ by (is_full s board)) where
  by : (b : Bool) → cond b (moves_out graph later board None) [] ≡ []
  by true = refl
  by false = refl

out-red : (board : Board) (k : ℕ × ℕ) → (final_board board (out_by_left board k)).red ≡ set board.red k.1 false
out-red board k = by (nat_lt 0 k.0 && not (marked board.blue k.1)) where
  by : (b : Bool) → (final_board board (cond b (Store k.1 ∷ Drop k.1 ∷ []) (Drop k.1 ∷ []))).red ≡ set board.red k.1 false
  by true = refl
  by false = refl

module _ (graph : ComputationGraph) (later : List ℕ) (v : ℕ) (hand : Hand) (in_turn : IsInTurn graph v later hand) (k : ℕ × ℕ)
    (here : list_any (is_at (pair_cmp k)) hand.queue.keys ≡ true) where
  own : (may_go graph v hand.board.board k.1 ≡ true) × (k.0 ≡ left_from graph later k.1)
  own = known graph later v hand.board.board hand.queue.keys in_turn.queue k here

  red : marked hand.board.board.red k.1 ≡ true
  red = (and_parts (marked hand.board.board.red k.1) (not (reads graph k.1 v)) (known graph later v hand.board.board hand.queue.keys in_turn.queue k here).0).0

  pub popped-there : k.1 < vertices graph
  popped-there = omega (arith, marked-below hand.board.board.red k.1 red, in_turn.fits.red)

  pub popped-moves : is_full hand.board.s hand.board.board ≡ true
      → ((q : ℕ × ℕ) → IsTrue (list_any (is_at (pair_cmp q)) hand.queue.keys) → is_gt (pair_cmp k q) ≡ false)
      → out_by_left hand.board.board k ≡ room_moves graph hand.board.s later v hand.board.board
  popped-moves full least =
      let goes : victim graph later v hand.board.board ≡ Some k.1 = first-goes graph later v hand.board.board hand.queue.keys in_turn.queue k popped-there here least in
      let used : nat_lt 0 k.0 ≡ is_used graph later k.1 = ap (nat_lt 0) own.1 ∙ sym (left-used graph later k.1) in
      ap (λ (b : Bool). cond (b && not (marked hand.board.board.blue k.1)) (Store k.1 ∷ Drop k.1 ∷ []) (Drop k.1 ∷ [])) used
      ∙ ap (moves_out graph later hand.board.board) (sym goes)
      ∙ ap (λ (b : Bool). cond b (moves_out graph later hand.board.board (victim graph later v hand.board.board)) []) (sym full)

  pub popped-in_turn : (new : Hand) → new.uses ≡ hand.uses → new.board.board ≡ final_board hand.board.board (out_by_left hand.board.board k)
      → IsSwitched hand.queue.keys new.queue.keys k false → IsInTurn graph v later new
  popped-in_turn new uses board switched = record {
    fits = subst (λ (b : Board). IsBoardOf graph b) (sym board) (final-fits graph hand.board.board (out_by_left hand.board.board k) in_turn.fits);
    uses = record { lists = ap length uses ∙ in_turn.uses.lists; each = λ u h. ap (λ (l : List (List ℕ)). slice_index_or l u []) uses ∙ in_turn.uses.each u h };
    queue = subst (λ (b : Board). IsQueue new.queue.keys (may_go graph v b) (left_from graph later)) (sym board)
        (switched-queue hand.queue.keys new.queue.keys (may_go graph v hand.board.board) (may_go graph v (final_board hand.board.board (out_by_left hand.board.board k))) (left_from graph later) k false
        in_turn.queue own.1 switched gone (λ w apart. stays w apart));
  } where
    gone : may_go graph v (final_board hand.board.board (out_by_left hand.board.board k)) k.1 ≡ false
    gone = and_left (marked (final_board hand.board.board (out_by_left hand.board.board k)).red k.1) (not (reads graph k.1 v))
        (ap (λ (marks : List Bool). marked marks k.1) (out-red hand.board.board k) ∙ taken-here hand.board.board.red k.1)

    stays : (w : ℕ) → (w ≡ k.1 → ⊥) → may_go graph v (final_board hand.board.board (out_by_left hand.board.board k)) w ≡ may_go graph v hand.board.board w
    stays w apart = ap (λ (b : Bool). b && not (reads graph w v)) (ap (λ (marks : List Bool). marked marks w) (out-red hand.board.board k) ∙ taken-other hand.board.board.red k.1 w apart)
