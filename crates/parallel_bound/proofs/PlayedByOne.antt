-- The player's moves are a complete pebbling, and its loads are those of the processors.
use Rattle.std.proofs.Common.{◌*◌, ◌≡◌, refl, sym, ◌∙◌, ap, ℕ, zero, suc, ◌+◌, ◌<◌, ◌≤◌, Bool, true, false, cond, List, [], ◌∷◌, length, map, replicate, arith}
use Rattle.std.specs.Prelude.{◌||◌, nat_eq, count_by, filter}
use Rattle.std.specs.List.{AllByRecursion}
use Rattle.std.proofs.lemmas.List.{length-append, length-replicate, length-set}
use Rattle.std.proofs.lemmas.List.Sums.{sum_by-cons}
use Rattle.pebble_game.proofs.Marks.{none-marked, unmarked-at}
use Rattle.iolb_model.specs.declared.game.Move.{Move}
use Rattle.iolb_model.specs.declared.game.Move.TheVariants.{Load, Store, Compute, Drop, Erase}
use Rattle.iolb_model.specs.Graph.{ComputationGraph}
use Rattle.iolb_model.specs.Game.{IsCompletePebbling, is_load, loads_one_of, mark_count, marked, vertices, board_after}
use Rattle.iolb_model.specs.Parallel.{AreAllowedThere, ParallelBoard, ParallelMove, IsCompleteParallelPebbling, first_parallel_board, moves_by, parallel_board_after, view_of}
use Rattle.parallel_bound.specs.Merging.{ParallelPebblingsMerge, added_up}
use Rattle.parallel_bound.proofs.HeldMarks.{is_held}
use Rattle.parallel_bound.proofs.Merge.{AreRedsOf, kept, merged, merged-allowed, merged-leaves}
use Rattle.parallel_bound.proofs.Sums.{added-more, added-nothing, added-same, one, one-has}

-- the moves, whoever makes them
abbrev pub all_moves : List ParallelMove → List Move
all_moves steps = map (λ (step : ParallelMove). step.move) steps

-- each step is of a processor that is there
abbrev pub AreBelow : ℕ → List ParallelMove → Type 0
AreBelow processors steps = AllByRecursion (λ (step : ParallelMove). step.processor < processors) steps

pub all-below : (graph : ComputationGraph) (s processors : ℕ) (steps : List ParallelMove) (board : ParallelBoard) → length board.reds ≡ processors → AreAllowedThere graph s board steps
    → AreBelow processors steps
all-below graph s processors [] board many allowed = tt
all-below graph s processors (step ∷ steps) board many allowed = (
  omega (arith, allowed.0.0, many),
  all-below graph s processors steps (parallel_board_after board step) (length-set board.reds step.processor (board_after (view_of board step.processor) step.move).red ∙ many) allowed.1,
)

-- ---- counts of moves, of a kind that no drop is

module _ (test : Move → Bool) where
  count-cons : (move : Move) (moves : List Move) → count_by test (move ∷ moves) ≡ cond (test move) 1 0 + count_by test moves
  count-cons move moves = sum_by-cons (λ (m : Move). cond (test m) 1 0) move moves

  count-kept : ((v : ℕ) → test (Drop v) ≡ false) → (reds : List (List Bool)) (move : Move) (rest : List Move)
      → count_by test (kept reds move rest) ≡ cond (test move) 1 0 + count_by test rest
  count-kept none reds (Load v) rest = count-cons (Load v) rest
  count-kept none reds (Store v) rest = count-cons (Store v) rest
  count-kept none reds (Compute v) rest = count-cons (Compute v) rest
  count-kept none reds (Drop v) rest = by (is_held reds v) where
    by : (b : Bool) → count_by test (cond b rest (Drop v ∷ rest)) ≡ cond (test (Drop v)) 1 0 + count_by test rest
    by true = omega (arith, ap one (none v))
    by false = count-cons (Drop v) rest
  count-kept none reds (Erase v) rest = count-cons (Erase v) rest

  count-by : (who : ℕ) (step : ParallelMove) (steps : List ParallelMove)
      → count_by test (moves_by who (step ∷ steps)) ≡ cond (nat_eq step.processor who) (cond (test step.move) 1 0) 0 + count_by test (moves_by who steps)
  count-by who step steps = by (nat_eq step.processor who) (filter (λ (other : ParallelMove). nat_eq other.processor who) steps) where
    by : (b : Bool) (rest : List ParallelMove) → count_by test (all_moves (cond b (step ∷ rest) rest)) ≡ cond b (cond (test step.move) 1 0) 0 + count_by test (all_moves rest)
    by true rest = count-cons step.move (all_moves rest)
    by false rest = omega arith

  -- the player's moves count as those of the processors
  pub count-merged : ((v : ℕ) → test (Drop v) ≡ false) → (processors : ℕ) (steps : List ParallelMove) (board : ParallelBoard) → AreBelow processors steps
      → count_by test (merged board steps) ≡ added_up processors (λ who. count_by test (moves_by who steps))
  count-merged none processors [] board below = sym (added-nothing processors)
  count-merged none processors (step ∷ steps) board below =
      omega (
        arith,
        count-kept none (parallel_board_after board step).reds step.move (merged (parallel_board_after board step) steps),
        count-merged none processors steps (parallel_board_after board step) below.1,
        added-same processors (λ who. count_by test (moves_by who (step ∷ steps)))
            (λ who. cond (nat_eq step.processor who) (cond (test step.move) 1 0) 0 + count_by test (moves_by who steps)) (λ who h. count-by who step steps),
        added-more processors (λ who. cond (nat_eq step.processor who) (cond (test step.move) 1 0) 0) (λ who. count_by test (moves_by who steps)),
        one-has processors step.processor (cond (test step.move) 1 0) below.0,
      )

-- ---- at first

module _ (graph : ComputationGraph) (s : ℕ) where
  none-held : (n processors v : ℕ) → is_held (replicate processors (replicate n false)) v ≡ false
  none-held n zero v = refl
  none-held n (suc processors) v = ap (λ b. b || is_held (replicate processors (replicate n false)) v) (unmarked-at n v) ∙ none-held n processors v

  all-alike : {A : Type 0} (P : A → Type 0) (n : ℕ) (x : A) → P x → AllByRecursion P (replicate n x)
  all-alike P zero x h = tt
  all-alike P (suc n) x h = (h, all-alike P n x h)

  pub first-reds : (processors : ℕ) → AreRedsOf (vertices graph) s (replicate (vertices graph) false) (first_parallel_board processors graph).reds
  first-reds processors = record {
    held = λ v. unmarked-at (vertices graph) v ∙ sym (none-held (vertices graph) processors v);
    few = all-alike (λ (marks : List Bool). mark_count marks ≤ s) processors (replicate (vertices graph) false) (omega (arith, none-marked (vertices graph)));
    wide = all-alike (λ (marks : List Bool). length marks ≡ vertices graph) processors (replicate (vertices graph) false) (length-replicate (vertices graph) false);
    one_wide = length-replicate (vertices graph) false;
  }

  pub first-blue : (processors : ℕ) → length (first_parallel_board processors graph).blue ≡ vertices graph
  first-blue processors =
      length-append (replicate graph.instances false) (replicate graph.inputs true)
      ∙ omega (arith, length-replicate graph.instances false, length-replicate graph.inputs true)

  pub first-many : (processors : ℕ) → length (first_parallel_board processors graph).reds ≡ processors
  first-many processors = length-replicate processors (replicate (vertices graph) false)

module _ (graph : ComputationGraph) (processors s : ℕ) (steps : List ParallelMove) (game : IsCompleteParallelPebbling graph processors s steps) where
  abbrev first : ParallelBoard
  first = first_parallel_board processors graph

  pub game-below : AreBelow processors steps
  game-below = all-below graph s processors steps first (first-many graph s processors) game.allowed

  pub complete-merged : IsCompletePebbling graph (processors * s) (merged first steps)
  complete-merged = let leaves = merged-leaves steps first (replicate (vertices graph) false) in record {
    allowed =
        merged-allowed graph s processors steps first (first-many graph s processors) (first-blue graph s processors) game.allowed (replicate (vertices graph) false)
        (first-reds graph s processors);
    computed = λ v below. ap (λ marks. marked marks v) leaves.computed ∙ game.computed v below;
    stored = λ v below last. ap (λ marks. marked marks v) leaves.blue ∙ game.stored v below last;
  }

pub merge-pebblings : ParallelPebblingsMerge
merge-pebblings graph processors s steps game = record {
  moves = merged (first_parallel_board processors graph) steps;
  complete = complete-merged graph processors s steps game;
  each_set = λ set. count-merged (loads_one_of set) (λ v. refl) processors steps (first_parallel_board processors graph) (game-below graph processors s steps game);
  all = count-merged is_load (λ v. refl) processors steps (first_parallel_board processors graph) (game-below graph processors s steps game);
}
