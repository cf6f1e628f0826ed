-- The moves of each processor are a red run.
use Rattle.std.proofs.Common.{◌≡◌, refl, sym, ◌∙◌, ap, subst, inl, inr, ℕ, ◌<◌, ◌≤◌, Bool, true, false, cond, List, [], ◌∷◌, length, get_or, set, replicate, arith, IsTrue}
use Rattle.std.specs.Prelude.{◌⊎◌, nat_eq, filter}
use Rattle.std.proofs.lemmas.Bool.{cases_eq, eq-eqb, ne_eqb}
use Rattle.std.proofs.lemmas.List.{get_or-replicate, get_or-set_other, get_or-set_same}
use Rattle.pebble_game.proofs.Marks.{count-put, none-marked}
use Rattle.iolb_model.specs.declared.game.Move.{Move}
use Rattle.iolb_model.specs.declared.game.Move.TheVariants.{Load, Store, Compute, Drop, Erase}
use Rattle.iolb_model.specs.Graph.{ComputationGraph}
use Rattle.iolb_model.specs.Game.{Board, IsAllowed, board_after, mark_count, marked, vertices}
use Rattle.iolb_model.specs.Parallel.{AreAllowedThere, IsCompleteParallelPebbling, ParallelBoard, ParallelMove, first_parallel_board, moves_by, parallel_board_after, view_of}
use Rattle.stretch_laws.specs.Runs.{ComputesFromRed, IsRedRun, red_after}
use Rattle.stretch_laws.proofs.CompletePebblings.{count-again, count-taken}
use Rattle.parallel_bound.proofs.PlayedByOne.{all_moves}

module _ (graph : ComputationGraph) (s : ℕ) where
  -- ---- one move

  same-red : (board : Board) (move : Move) → (board_after board move).red ≡ red_after board.red move
  same-red board (Load v) = refl
  same-red board (Store v) = refl
  same-red board (Compute v) = refl
  same-red board (Drop v) = refl
  same-red board (Erase v) = refl

  from-red : (board : Board) (move : Move) → IsAllowed graph s board move → ComputesFromRed graph board.red move
  from-red board (Load v) allowed = tt
  from-red board (Store v) allowed = tt
  from-red board (Compute v) allowed = (allowed.0, allowed.2)
  from-red board (Drop v) allowed = tt
  from-red board (Erase v) allowed = tt

  few-after : (board : Board) (move : Move) → IsAllowed graph s board move → mark_count board.red ≤ s → mark_count (red_after board.red move) ≤ s
  few-after board (Load v) allowed few = by allowed.1 where
    by : IsTrue (marked board.red v) ⊎ (mark_count board.red < s) → mark_count (set board.red v true) ≤ s
    by (inl here) = omega (arith, few, count-again board.red v here)
    by (inr less) = omega (arith, less, count-put board.red v)
  few-after board (Store v) allowed few = few
  few-after board (Compute v) allowed few = omega (arith, allowed.3, count-put board.red v)
  few-after board (Drop v) allowed few = omega (arith, few, count-taken board.red v)
  few-after board (Erase v) allowed few = few

  -- ---- all moves

  module _ (who : ℕ) where
    abbrev own : ParallelBoard → List Bool
    own board = get_or board.reds who []

    -- a step of the processor changes its red marks, and no other step does
    own-after : (board : ParallelBoard) (step : ParallelMove) → step.processor < length board.reds → step.processor ≡ who
        → own (parallel_board_after board step) ≡ red_after (own board) step.move
    own-after board step there e =
        ap (λ n. get_or (set board.reds n (board_after (view_of board n) step.move).red) who []) e
        ∙ get_or-set_same board.reds who (board_after (view_of board who) step.move).red [] (omega (arith, there, e)) ∙ same-red (view_of board who) step.move

    others-after : (board : ParallelBoard) (step : ParallelMove) → (who ≡ step.processor → ⊥) → own (parallel_board_after board step) ≡ own board
    others-after board step apart = get_or-set_other board.reds step.processor who (board_after (view_of board step.processor) step.move).red [] apart

    pub own-run : (steps : List ParallelMove) (board : ParallelBoard) → AreAllowedThere graph s board steps → mark_count (own board) ≤ s → IsRedRun graph s (own board) (moves_by who steps)
    own-run [] board allowed few = few
    own-run (step ∷ steps) board allowed few =
        by (cases_eq step.processor who) (λ next. own-run steps (parallel_board_after board step) allowed.1 next) where
          by : (step.processor ≡ who) ⊎ (step.processor ≡ who → ⊥)
              → (mark_count (own (parallel_board_after board step)) ≤ s → IsRedRun graph s (own (parallel_board_after board step)) (moves_by who steps))
              → IsRedRun graph s (own board) (moves_by who (step ∷ steps))
          by (inl e) later =
              let allowed_own : IsAllowed graph s (view_of board who) step.move = subst (λ (n : ℕ). IsAllowed graph s (view_of board n) step.move) e allowed.0.1 in
              let after : own (parallel_board_after board step) ≡ red_after (own board) step.move = own-after board step allowed.0.0 e in
              let next : mark_count (red_after (own board) step.move) ≤ s = few-after (view_of board who) step.move allowed_own few in
              subst (λ (b : Bool). IsRedRun graph s (own board) (all_moves (cond b (step ∷ filter (λ (other : ParallelMove). nat_eq other.processor who) steps) (filter (λ (other : ParallelMove). nat_eq other.processor who) steps))))
              (sym (eq-eqb step.processor who e)) (
                few,
                from-red (view_of board who) step.move allowed_own,
                subst (λ (red : List Bool). IsRedRun graph s red (moves_by who steps)) after (later (subst (λ (red : List Bool). mark_count red ≤ s) (sym after) next)),
              )
          by (inr apart) later =
              let after : own (parallel_board_after board step) ≡ own board = others-after board step (λ e. apart (sym e)) in
              subst (λ (b : Bool). IsRedRun graph s (own board) (all_moves (cond b (step ∷ filter (λ (other : ParallelMove). nat_eq other.processor who) steps) (filter (λ (other : ParallelMove). nat_eq other.processor who) steps))))
              (sym (ne_eqb step.processor who apart))
              (subst (λ (red : List Bool). IsRedRun graph s red (moves_by who steps)) after (later (subst (λ (red : List Bool). mark_count red ≤ s) (sym after) few)))

  pub processor-run : (processors who : ℕ) (steps : List ParallelMove) → IsCompleteParallelPebbling graph processors s steps → who < processors
      → IsRedRun graph s (replicate (vertices graph) false) (moves_by who steps)
  processor-run processors who steps game below =
      let first : get_or (first_parallel_board processors graph).reds who [] ≡ replicate (vertices graph) false = get_or-replicate processors who (replicate (vertices graph) false) [] below in
      subst (λ (red : List Bool). IsRedRun graph s red (moves_by who steps)) first
      (own-run who steps (first_parallel_board processors graph) game.allowed
      (subst (λ (red : List Bool). mark_count red ≤ s) (sym first) (omega (arith, none-marked (vertices graph)))))
