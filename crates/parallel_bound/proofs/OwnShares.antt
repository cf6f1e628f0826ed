-- The processors compute each instance once, so some processor computes its share.
use Rattle.std.proofs.Common.{◌≡◌, refl, sym, ap, subst, inl, inr, ℕ, ◌+◌, ◌-◌, ◌*◌, ◌/◌, ◌<◌, ◌≤◌, Bool, true, false, cond, List, [], ◌∷◌, length, arith}
use Rattle.std.specs.Prelude.{◌⊎◌, nat_eq, filter}
use Rattle.std.specs.List.{AllByRecursion, IsDistinct}
use Rattle.std.proofs.Math.Nat.{div-lt_iff_lt-mul}
use Rattle.std.proofs.lemmas.Bool.{eq-eqb}
use Rattle.execution_laws.proofs.Members.{Member}
use Rattle.pebble_game.proofs.Marks.{member-stands, standing-member}
use Rattle.iolb_model.specs.declared.game.Move.{Move}
use Rattle.iolb_model.specs.declared.game.Move.TheVariants.{Load, Store, Compute, Drop, Erase}
use Rattle.iolb_model.specs.Graph.{ComputationGraph}
use Rattle.iolb_model.specs.Game.{stands_in}
use Rattle.iolb_model.specs.Parallel.{IsCompleteParallelPebbling, ParallelBoard, ParallelMove, ceiling, first_parallel_board, moves_by, parallel_board_after}
use Rattle.stretch_laws.specs.Runs.{computed_among, computed_vertices}
use Rattle.stretch_laws.specs.Laws.{CompletePebblingsAreRuns}
use Rattle.parallel_bound.specs.Merging.{added_up}
use Rattle.parallel_bound.specs.Shares.{InstancesAreComputed, ProcessorsMakeRuns, SomeComputesItsShare}
use Rattle.parallel_bound.proofs.HeldMarks.{is_held}
use Rattle.parallel_bound.proofs.Merge.{kept, merged}
use Rattle.parallel_bound.proofs.OwnRuns.{processor-run}
use Rattle.parallel_bound.proofs.PlayedByOne.{AreBelow, all_moves, game-below, complete-merged}
use Rattle.parallel_bound.proofs.Sums.{added-more, added-same, has-share, some-has}

-- ---- what is computed by the player is computed by the processors

computed-kept : (reds : List (List Bool)) (move : Move) (one rest : List Move) → computed_vertices one ≡ computed_vertices rest
    → computed_vertices (kept reds move one) ≡ computed_vertices (move ∷ rest)
computed-kept reds (Load v) one rest e = e
computed-kept reds (Store v) one rest e = e
computed-kept reds (Compute v) one rest e = ap (λ vs. v ∷ vs) e
computed-kept reds (Drop v) one rest e = by (is_held reds v) where
  by : (b : Bool) → computed_vertices (cond b one (Drop v ∷ one)) ≡ computed_vertices rest
  by true = e
  by false = e
computed-kept reds (Erase v) one rest e = e

computed-merged : (steps : List ParallelMove) (board : ParallelBoard) → computed_vertices (merged board steps) ≡ computed_vertices (all_moves steps)
computed-merged [] board = refl
computed-merged (step ∷ steps) board =
    computed-kept (parallel_board_after board step).reds step.move (merged (parallel_board_after board step) steps) (all_moves steps) (computed-merged steps (parallel_board_after board step))

-- ---- those of one processor

module _ (who : ℕ) where
  abbrev of_one : List ParallelMove → List ParallelMove
  of_one steps = filter (λ (step : ParallelMove). nat_eq step.processor who) steps

  -- a move more
  all-move : (P : ℕ → Type 0) (move : Move) (some all : List Move) → (AllByRecursion P (computed_vertices all) → AllByRecursion P (computed_vertices some))
      → AllByRecursion P (computed_vertices (move ∷ all)) → AllByRecursion P (computed_vertices (move ∷ some))
  all-move P (Load v) some all less h = less h
  all-move P (Store v) some all less h = less h
  all-move P (Compute v) some all less h = (h.0, less h.1)
  all-move P (Drop v) some all less h = less h
  all-move P (Erase v) some all less h = less h

  less-move : (P : ℕ → Type 0) (move : Move) (all : List Move) → AllByRecursion P (computed_vertices (move ∷ all)) → AllByRecursion P (computed_vertices all)
  less-move P (Load v) all h = h
  less-move P (Store v) all h = h
  less-move P (Compute v) all h = h.1
  less-move P (Drop v) all h = h
  less-move P (Erase v) all h = h

  -- what holds of all that is computed holds of what one computes
  all-own : (P : ℕ → Type 0) (steps : List ParallelMove) → AllByRecursion P (computed_vertices (all_moves steps)) → AllByRecursion P (computed_vertices (moves_by who steps))
  all-own P [] h = tt
  all-own P (step ∷ steps) h = by (nat_eq step.processor who) (λ g. all-own P steps g) where
    by : (b : Bool) → (AllByRecursion P (computed_vertices (all_moves steps)) → AllByRecursion P (computed_vertices (moves_by who steps)))
        → AllByRecursion P (computed_vertices (all_moves (cond b (step ∷ of_one steps) (of_one steps))))
    by true less = all-move P step.move (moves_by who steps) (all_moves steps) less h
    by false less = less (less-move P step.move (all_moves steps) h)

  distinct-move : (move : Move) (some all : List Move)
      → ((P : ℕ → Type 0) → AllByRecursion P (computed_vertices all) → AllByRecursion P (computed_vertices some))
      → (IsDistinct nat_eq (computed_vertices all) → IsDistinct nat_eq (computed_vertices some))
      → IsDistinct nat_eq (computed_vertices (move ∷ all)) → IsDistinct nat_eq (computed_vertices (move ∷ some))
  unfolding IsDistinct
  distinct-move (Load v) some all less later h = later h
  distinct-move (Store v) some all less later h = later h
  distinct-move (Compute v) some all less later h = (less (λ (y : ℕ). nat_eq v y ≡ false) h.0, later h.1)
  distinct-move (Drop v) some all less later h = later h
  distinct-move (Erase v) some all less later h = later h

  distinct-rest : (move : Move) (all : List Move) → IsDistinct nat_eq (computed_vertices (move ∷ all)) → IsDistinct nat_eq (computed_vertices all)
  unfolding IsDistinct
  distinct-rest (Load v) all h = h
  distinct-rest (Store v) all h = h
  distinct-rest (Compute v) all h = h.1
  distinct-rest (Drop v) all h = h
  distinct-rest (Erase v) all h = h

  -- so one computes no vertex again
  distinct-own : (steps : List ParallelMove) → IsDistinct nat_eq (computed_vertices (all_moves steps)) → IsDistinct nat_eq (computed_vertices (moves_by who steps))
  unfolding IsDistinct
  distinct-own [] h = tt
  distinct-own (step ∷ steps) h = by (nat_eq step.processor who) (λ g. distinct-own steps g) where
    by : (b : Bool) → (IsDistinct nat_eq (computed_vertices (all_moves steps)) → IsDistinct nat_eq (computed_vertices (moves_by who steps)))
        → IsDistinct nat_eq (computed_vertices (all_moves (cond b (step ∷ of_one steps) (of_one steps))))
    by true later = distinct-move step.move (moves_by who steps) (all_moves steps) (λ P g. all-own P steps g) later h
    by false later = later (distinct-rest step.move (all_moves steps) h)

  member-move : (v : ℕ) (move : Move) (moves : List Move) → Member v (computed_vertices moves) → Member v (computed_vertices (move ∷ moves))
  member-move v (Load w) moves m = m
  member-move v (Store w) moves m = m
  member-move v (Compute w) moves m = inr m
  member-move v (Drop w) moves m = m
  member-move v (Erase w) moves m = m

  member-more : (v : ℕ) (step : ParallelMove) (steps : List ParallelMove) → Member v (computed_vertices (moves_by who steps)) → Member v (computed_vertices (moves_by who (step ∷ steps)))
  member-more v step steps m = by (nat_eq step.processor who) where
    by : (b : Bool) → Member v (computed_vertices (all_moves (cond b (step ∷ of_one steps) (of_one steps))))
    by true = member-move v step.move (moves_by who steps) m
    by false = m

-- ---- each instance has a processor that computes it

-- it is computed by the first move, or later
first-or-later : (v : ℕ) (move : Move) (moves : List Move) → Member v (computed_vertices (move ∷ moves))
    → ((others : List Move) → Member v (computed_vertices (move ∷ others))) ⊎ Member v (computed_vertices moves)
first-or-later v (Load w) moves m = inr m
first-or-later v (Store w) moves m = inr m
first-or-later v (Compute w) moves (inl e) = inl (λ others. inl e)
first-or-later v (Compute w) moves (inr m) = inr m
first-or-later v (Drop w) moves m = inr m
first-or-later v (Erase w) moves m = inr m

some-computes : (processors v : ℕ) (steps : List ParallelMove) → AreBelow processors steps → Member v (computed_vertices (all_moves steps))
    → (who : ℕ) × (who < processors) × Member v (computed_vertices (moves_by who steps))
some-computes processors v [] below m = absurd m
some-computes processors v (step ∷ steps) below m =
    by (first-or-later v step.move (all_moves steps) m) (λ later. some-computes processors v steps below.1 later) where
      by : ((others : List Move) → Member v (computed_vertices (step.move ∷ others))) ⊎ Member v (computed_vertices (all_moves steps))
          → (Member v (computed_vertices (all_moves steps)) → (who : ℕ) × (who < processors) × Member v (computed_vertices (moves_by who steps)))
          → (who : ℕ) × (who < processors) × Member v (computed_vertices (moves_by who (step ∷ steps)))
      by (inl first) later = (
        step.processor,
        below.0,
        subst (λ (b : Bool). Member v (computed_vertices (all_moves (cond b (step ∷ of_one step.processor steps) (of_one step.processor steps)))))
            (sym (eq-eqb step.processor step.processor refl)) (first (moves_by step.processor steps)),
      )
      by (inr m) later = let found = later m in (found.0, found.1, member-more found.0 v step steps found.2)

module _ (runs : CompletePebblingsAreRuns) (graph : ComputationGraph) (processors s : ℕ) (steps : List ParallelMove) (game : IsCompleteParallelPebbling graph processors s steps) where
  abbrev one : List Move
  one = merged (first_parallel_board processors graph) steps

  same-computed : computed_vertices one ≡ computed_vertices (all_moves steps)
  same-computed = computed-merged steps (first_parallel_board processors graph)

  all-distinct : IsDistinct nat_eq (computed_vertices (all_moves steps))
  all-distinct = subst (λ (vs : List ℕ). IsDistinct nat_eq vs) same-computed (runs graph (processors * s) one (complete-merged graph processors s steps game)).1

  is-computed : (v : ℕ) → v < graph.instances → (who : ℕ) × (who < processors) × (stands_in (computed_vertices (moves_by who steps)) v ≡ true)
  is-computed v below =
      let stands : stands_in (computed_vertices (all_moves steps)) v ≡ true =
      subst (λ (vs : List ℕ). stands_in vs v ≡ true) same-computed ((runs graph (processors * s) one (complete-merged graph processors s steps game)).2 v below) in
      let found = some-computes processors v steps (game-below graph processors s steps game) (standing-member (computed_vertices (all_moves steps)) v stands) in
      (found.0, found.1, member-stands (computed_vertices (moves_by found.0 steps)) v found.2)

pub processors-make-runs : CompletePebblingsAreRuns → ProcessorsMakeRuns
processors-make-runs runs graph processors s who steps game below =
    (processor-run graph s processors who steps game below, distinct-own who steps (all-distinct runs graph processors s steps game))

pub instances-are-computed : CompletePebblingsAreRuns → InstancesAreComputed
instances-are-computed runs graph processors s v steps game below = is-computed runs graph processors s steps game v below

-- ---- shares

left-cons : (test : ℕ → Bool) (v : ℕ) (points : List ℕ) → length (filter test (v ∷ points)) ≡ cond (test v) 1 0 + length (filter test points)
left-cons test v points = by (test v) where
  by : (b : Bool) → length (cond b (v ∷ filter test points) (filter test points)) ≡ cond b 1 0 + length (filter test points)
  by true = omega arith
  by false = omega arith

-- where each point passes some test, at least as many pass the tests as there are points
passed-many : (n : ℕ) (tests : ℕ → ℕ → Bool) (points : List ℕ) → AllByRecursion (λ (v : ℕ). (who : ℕ) × (who < n) × (tests who v ≡ true)) points
    → length points ≤ added_up n (λ who. length (filter (tests who) points))
passed-many n tests [] h = omega arith
passed-many n tests (v ∷ points) h =
    omega (
      arith,
      passed-many n tests points h.1,
      some-has n h.0.0 (λ who. tests who v) h.0.1 h.0.2,
      added-same n (λ who. length (filter (tests who) (v ∷ points))) (λ who. cond (tests who v) 1 0 + length (filter (tests who) points)) (λ who below. left-cons (tests who) v points),
      added-more n (λ who. cond (tests who v) 1 0) (λ who. length (filter (tests who) points)),
    )

-- a share of so many at most is so many at most, rounded up
pub ceiling-low : (number parts k : ℕ) → 1 ≤ parts → number ≤ parts * k → ceiling number parts ≤ k
ceiling-low number parts k some few =
    let below : (number + (parts - 1)) / parts < k + 1 = (div-lt_iff_lt-mul {k = parts} {x = number + (parts - 1)} {y = k + 1} (omega (arith, some))).1 (omega (arith, some, few)) in
    omega (arith, below)

all-computed : (graph : ComputationGraph) (processors : ℕ) (steps : List ParallelMove)
    → ((v : ℕ) → v < graph.instances → (who : ℕ) × (who < processors) × (stands_in (computed_vertices (moves_by who steps)) v ≡ true))
    → (points : List ℕ) → AllByRecursion (λ v. v < graph.instances) points
    → AllByRecursion (λ (v : ℕ). (who : ℕ) × (who < processors) × (stands_in (computed_vertices (moves_by who steps)) v ≡ true)) points
all-computed graph processors steps each [] there = tt
all-computed graph processors steps each (v ∷ points) there = (each v there.0, all-computed graph processors steps each points there.1)

pub some-computes-its-share : CompletePebblingsAreRuns → SomeComputesItsShare
some-computes-its-share runs graph processors s steps points game some there =
    let many : length points ≤ added_up processors (λ who. length (computed_among points (moves_by who steps))) =
    passed-many processors (λ who. stands_in (computed_vertices (moves_by who steps))) points (all-computed graph processors steps (is-computed runs graph processors s steps game) points there) in
    let found = has-share processors (λ who. length (computed_among points (moves_by who steps))) some in
    (found.0, found.1, ceiling-low (length points) processors (length (computed_among points (moves_by found.0 steps))) some (omega (arith, many, found.2)))
