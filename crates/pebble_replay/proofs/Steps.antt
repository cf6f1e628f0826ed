-- Keys taken out of the queue and put into it, and what moves keep of a board.
use Rattle.std.proofs.Common.{◌≡◌, refl, sym, ◌∙◌, ap, inl, inr, ℕ, Bool, true, false, cond, List, [], ◌∷◌, Result, Ok, Err, OnOk}
use Rattle.std.specs.Prelude.{◌⊎◌, ◌&&◌, nat_eq}
use Rattle.std.specs.List.{list_any}
use Rattle.std.specs.BTreeMap.{is_at}
use Rattle.std.proofs.lemmas.Bool.{cases_eq, and_from, and_left, and_right, eq-eqb, ne_eqb}
use Rattle.std.proofs.lemmas.List.{length-set}
use Rattle.iolb_model.specs.declared.game.Move.{Move}
use Rattle.iolb_model.specs.declared.game.Move.TheVariants.{Load, Store, Compute, Drop, Erase}
use Rattle.iolb_model.specs.Graph.{ComputationGraph}
use Rattle.iolb_model.specs.Game.{Board, board_after, final_board}
use Rattle.pebble_game.specs.Boards.{IsBoardOf}
use Rattle.pebble_replay.specs.Queue.{pair_cmp, Waiting, IsSwitched}
use Rattle.pebble_replay.specs.Turns.{IsQueue, Gains}
use Rattle.pebble_replay.specs.declared.turn.Turn.{Turn}
use Rattle.pebble_replay.proofs.Queue.{at-pair}

pub on_ok : {T E : Type 0} {P Q : Type 0} (r : Result T E) → OnOk r P → (P → Q) → OnOk r Q
on_ok (Ok x) p f = f p
on_ok (Err e) p f = p

pub on_both : {T E : Type 0} {P Q R : Type 0} (r : Result T E) → OnOk r P → OnOk r Q → (P → Q → R) → OnOk r R
on_both (Ok x) p q f = f p q
on_both (Err e) p q f = p

after-fits : (graph : ComputationGraph) (board : Board) (move : Move) → IsBoardOf graph board → IsBoardOf graph (board_after board move)
after-fits graph board (Load v) fits = record { red = length-set board.red v true ∙ fits.red; blue = fits.blue; computed = fits.computed }
after-fits graph board (Store v) fits = record { red = fits.red; blue = length-set board.blue v true ∙ fits.blue; computed = fits.computed }
after-fits graph board (Compute v) fits = record { red = length-set board.red v true ∙ fits.red; blue = fits.blue; computed = length-set board.computed v true ∙ fits.computed }
after-fits graph board (Drop v) fits = record { red = length-set board.red v false ∙ fits.red; blue = fits.blue; computed = fits.computed }
after-fits graph board (Erase v) fits = record { red = fits.red; blue = length-set board.blue v false ∙ fits.blue; computed = fits.computed }

-- moves leave a board of the graph
pub final-fits : (graph : ComputationGraph) (board : Board) (moves : List Move) → IsBoardOf graph board → IsBoardOf graph (final_board board moves)
final-fits graph board [] fits = fits
final-fits graph board (move ∷ moves) fits = final-fits graph (board_after board move) moves (after-fits graph board move fits)

-- then its vertex waits, or doesn't
pub switched-queue : (keys new : List (ℕ × ℕ)) (waits waiting : ℕ → Bool) (left : ℕ → ℕ) (k : ℕ × ℕ) (b : Bool) → IsQueue keys waits left → k.0 ≡ left k.1
    → IsSwitched keys new k b → waiting k.1 ≡ b → ((w : ℕ) → (w ≡ k.1 → ⊥) → waiting w ≡ waits w) → IsQueue new waiting left
switched-queue keys new waits waiting left k b queue own switched here others q = switched q ∙ by (cases_eq q.1 k.1) where
  at_it : (c : Bool) → (nat_eq k.0 q.0 && nat_eq k.1 q.1) ≡ c → cond (is_at (pair_cmp k) q) b (list_any (is_at (pair_cmp q)) keys) ≡ cond c b (list_any (is_at (pair_cmp q)) keys)
  at_it c e = ap (λ (d : Bool). cond d b (list_any (is_at (pair_cmp q)) keys)) (at-pair k q ∙ e)

  same : q.1 ≡ k.1 → (q.0 ≡ k.0) ⊎ (q.0 ≡ k.0 → ⊥) → cond (is_at (pair_cmp k) q) b (list_any (is_at (pair_cmp q)) keys) ≡ (waiting q.1 && nat_eq q.0 (left q.1))
  same e (inl f) =
      let right : (waiting q.1 && nat_eq q.0 (left q.1)) ≡ (b && true) =
      ap (λ (c : Bool). c && nat_eq q.0 (left q.1)) (ap waiting e ∙ here) ∙ ap (λ (c : Bool). b && c) (eq-eqb q.0 (left q.1) (f ∙ own ∙ ap left (sym e))) in
      at_it true (and_from (nat_eq k.0 q.0) (nat_eq k.1 q.1) (eq-eqb k.0 q.0 (sym f)) (eq-eqb k.1 q.1 (sym e))) ∙ sym (right ∙ and_true b) where
        and_true : (c : Bool) → (c && true) ≡ c
        and_true true = refl
        and_true false = refl
  same e (inr apart) =
      let off : nat_eq q.0 (left q.1) ≡ false = ne_eqb q.0 (left q.1) (λ f. apart (f ∙ ap left e ∙ sym own)) in
      at_it false (and_left (nat_eq k.0 q.0) (nat_eq k.1 q.1) (ne_eqb k.0 q.0 (λ f. apart (sym f))))
      ∙ queue q ∙ and_right (waits q.1) (nat_eq q.0 (left q.1)) off ∙ sym (and_right (waiting q.1) (nat_eq q.0 (left q.1)) off)

  by : (q.1 ≡ k.1) ⊎ (q.1 ≡ k.1 → ⊥) → cond (is_at (pair_cmp k) q) b (list_any (is_at (pair_cmp q)) keys) ≡ (waiting q.1 && nat_eq q.0 (left q.1))
  by (inl e) = same e (cases_eq q.0 k.0)
  by (inr apart) =
      at_it false (and_right (nat_eq k.0 q.0) (nat_eq k.1 q.1) (ne_eqb k.1 q.1 (λ f. apart (sym f))))
      ∙ queue q ∙ ap (λ (c : Bool). c && nat_eq q.0 (left q.1)) (sym (others q.1 apart))

-- who waits may be said in another way
pub same-queue : (keys : List (ℕ × ℕ)) (waits waiting : ℕ → Bool) (left : ℕ → ℕ) → IsQueue keys waits left → ((w : ℕ) → waiting w ≡ waits w) → IsQueue keys waiting left
same-queue keys waits waiting left queue same q = queue q ∙ ap (λ (c : Bool). c && nat_eq q.0 (left q.1)) (sym (same q.1))

-- a turn with another queue
abbrev pub with_queue : Turn → Waiting → Turn
with_queue turn queue = record turn { hand = record turn.hand { queue = queue } }

pub gains-queue : (old new : Turn) (queue : Waiting) (moves : List Move) → Gains (with_queue old queue) new moves → Gains old new moves
gains-queue old new queue moves g = record { graph = g.graph; order = g.order; place = g.place; uses = g.uses; board = g.board; moves = g.moves }
