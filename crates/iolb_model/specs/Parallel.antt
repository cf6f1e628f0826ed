-- The red-blue pebble game of several processors, each with a fast memory of its own over one slow memory, and what a bound is
-- worth for the busiest of them. (Hong and Kung 1981, with red pebbles for each processor as in Elango et al. 2014.)
use Rattle.std.specs.Prelude.{ℕ, ◌+◌, ◌-◌, ◌*◌, ◌/◌, ◌<◌, ◌≤◌, nat_eq, max, Bool, IsTrue, ⊤, ℤ, List, [], ◌∷◌, map, filter, fold, length, sum, replicate, slice_set, slice_index_or}
use Rattle.iolb_model.specs.Program.{AffineProgram}
use Rattle.iolb_model.specs.Graph.{ComputationGraph, computation_graph}
use Rattle.iolb_model.specs.Polynomial.{Polynomial}
use Rattle.iolb_model.specs.Game.{Board, marked, first_board, IsAllowed, board_after, loads}
use Rattle.iolb_model.specs.Bound.{IsAdmitted, BoundTerm, StretchNumbers, cold, wavefront, partition, joint, Bound, count_value, events_of, points_of, term_value}
use Rattle.iolb_model.specs.declared.game.Move.{Move}

-- a move, and the processor that makes it
pub record ParallelMove : Type 0 where
  pub processor : ℕ
  pub move : Move

-- the red pebbles of each processor; blue ones and what was computed they have in common
pub record ParallelBoard : Type 0 where
  pub reds : List (List Bool)
  pub blue : List Bool
  pub computed : List Bool

-- the board as one processor sees it
abbrev pub view_of : ParallelBoard → ℕ → Board
view_of board processor = record { red = slice_index_or board.reds processor []; blue = board.blue; computed = board.computed }

-- at first each input has a blue pebble, and nothing else has any
abbrev pub first_parallel_board : ℕ → ComputationGraph → ParallelBoard
first_parallel_board processors graph =
    let board = first_board graph
    in record { reds = replicate processors board.red; blue = board.blue; computed = board.computed }

-- a move is allowed where its processor is there, and it is allowed on the board that the processor sees
abbrev pub IsAllowedThere : ComputationGraph → ℕ → ParallelBoard → ParallelMove → Type 0
IsAllowedThere graph s board step = (step.processor < length board.reds) × IsAllowed graph s (view_of board step.processor) step.move

-- it does there what it does
abbrev pub parallel_board_after : ParallelBoard → ParallelMove → ParallelBoard
parallel_board_after board step =
    let seen = board_after (view_of board step.processor) step.move
    in record { reds = slice_set board.reds step.processor seen.red; blue = seen.blue; computed = seen.computed }

-- each move is allowed on the board that the moves before it leave
abbrev pub AreAllowedThere : ComputationGraph → ℕ → ParallelBoard → List ParallelMove → Type 0
AreAllowedThere graph s board [] = ⊤
AreAllowedThere graph s board (step ∷ steps) = IsAllowedThere graph s board step × AreAllowedThere graph s (parallel_board_after board step) steps

-- the board that the moves leave
abbrev pub final_parallel_board : ParallelBoard → List ParallelMove → ParallelBoard
final_parallel_board board steps = fold parallel_board_after board steps

-- A complete parallel pebbling, with so many processors and so many red pebbles for each: each move is allowed, at the end
-- each instance was computed, and each last writer is blue.
pub record IsCompleteParallelPebbling (graph : ComputationGraph) (processors s : ℕ) (steps : List ParallelMove) : Type 0 where
  pub allowed : AreAllowedThere graph s (first_parallel_board processors graph) steps
  pub computed : (v : ℕ) → v < graph.instances → IsTrue (marked (final_parallel_board (first_parallel_board processors graph) steps).computed v)
  pub stored : (v : ℕ) → v < graph.instances → IsTrue (marked graph.last_writers v)
      → IsTrue (marked (final_parallel_board (first_parallel_board processors graph) steps).blue v)

-- the moves that one processor makes
abbrev pub moves_by : ℕ → List ParallelMove → List Move
moves_by processor steps =
    map (λ (step : ParallelMove). step.move) (filter (λ (step : ParallelMove). nat_eq step.processor processor) steps)

-- ---- what a bound is worth

-- one number over another, rounded up
abbrev pub ceiling : ℕ → ℕ → ℕ
ceiling number parts = (number + (parts - 1)) / parts

-- what the processor loads that computes at least its share of so many points: the events of the stretches that this share fills,
-- but for those of the credits
abbrev pub own_stretches : Polynomial → Polynomial → StretchNumbers → List ℤ → ℕ → ℕ → ℕ
own_stretches count credits numbers values processors s =
    events_of numbers s * ((ceiling (count_value count values) processors - 1) / points_of numbers s) - count_value credits values

-- The own part of a term: that of the instances of a partition term, and of the images of a joint one.
abbrev pub own_part : BoundTerm → List ℤ → ℕ → ℕ → ℕ
own_part (cold count) values processors s = 0
own_part (wavefront pairs outer) values processors s = 0
own_part (partition count credits numbers) values processors s = own_stretches count credits numbers values processors s
own_part (joint count credits numbers) values processors s = own_stretches count credits numbers values processors s

-- The shared part of a term: what all processors load together, whose red pebbles are as those of one processor.
abbrev pub shared_part : BoundTerm → List ℤ → ℕ → ℕ → ℕ
shared_part (cold count) values processors s = term_value (cold count) values (processors * s)
shared_part (wavefront pairs outer) values processors s = term_value (wavefront pairs outer) values (processors * s)
shared_part (partition count credits numbers) values processors s = 0
shared_part (joint count credits numbers) values processors s = 0

-- The value of a branch: the greatest of its own parts and of each processor's share of the shared parts.
abbrev pub parallel_branch_value : List BoundTerm → List ℤ → ℕ → ℕ → ℕ
parallel_branch_value terms values processors s =
    fold max (ceiling (sum (map (λ term. shared_part term values processors s) terms)) processors) (map (λ term. own_part term values processors s) terms)

-- the value of a bound is the greatest value of its branches, and 0 if there is none
abbrev pub parallel_value : Bound → List ℤ → ℕ → ℕ → ℕ
parallel_value bound values processors s = fold max 0 (map (λ terms. parallel_branch_value terms values processors s) bound.branches)

-- What it means that a bound holds for several processors: at all admitted parameter values, of any size, for any number of
-- processors and every S of at least 1, in every complete parallel pebbling of the computation graph some processor makes at
-- least as many loads as the value says.
abbrev pub HoldsInParallel : AffineProgram → Bound → Type 0
HoldsInParallel program bound = (values : List ℤ) (processors s : ℕ) (steps : List ParallelMove) → IsAdmitted program values → 1 ≤ processors → 1 ≤ s
    → IsCompleteParallelPebbling (computation_graph program values) processors s steps
    → ((busiest : ℕ) × (busiest < processors) × (parallel_value bound values processors s ≤ loads (moves_by busiest steps)))
