-- The shared parts of a branch's terms are loaded by all processors together, and each own part by one of them.
use Rattle.std.proofs.Common.{subst, inl, inr, ℕ, zero, suc, ◌*◌, ◌<◌, ◌≤◌, max, false, List, [], ◌∷◌, length, map, sum_by, replicate, arith}
use Rattle.std.specs.Prelude.{◌⊎◌, ℤ, fold, sum}
use Rattle.std.specs.List.{AllByRecursion, AllZip}
use Rattle.std.proofs.lemmas.List.Sums.{sum_by-cons, sum-map}
use Rattle.execution_laws.proofs.Ordered.{All-from}
use Rattle.pebble_game.proofs.Disjoint.{disjoint_loads}
use Rattle.pebble_game.proofs.Marks.{member-stands}
use Rattle.iolb_model.specs.declared.game.Move.{Move}
use Rattle.iolb_model.specs.Program.{AffineProgram}
use Rattle.iolb_model.specs.Bound.{Bound, BoundTerm, IsAdmitted, StretchNumbers, cold, count_value, joint, partition, wavefront}
use Rattle.iolb_model.specs.Polynomial.{Polynomial}
use Rattle.iolb_model.specs.Footprint.{CostTheirValues, CostsItsValue, Footprint}
use Rattle.iolb_model.specs.Game.{loads, loads_of, vertices}
use Rattle.iolb_model.specs.Graph.{computation_graph}
use Rattle.iolb_model.specs.Parallel.{IsCompleteParallelPebbling, ParallelMove, ceiling, moves_by, own_part, own_stretches, parallel_branch_value, parallel_value, shared_part}
use Rattle.k_partition.specs.TermRuns.{SharesAmongRuns}
use Rattle.stretch_laws.specs.Runs.{computed_among}
use Rattle.parallel_bound.specs.Holds.{IsSplit, IsSplitBranch, SplitBranchesHoldInParallel}
use Rattle.parallel_bound.specs.Merging.{ParallelPebblingsMerge}
use Rattle.parallel_bound.specs.Shares.{ProcessorsMakeRuns, SomeComputesItsShare}
use Rattle.parallel_bound.proofs.OwnShares.{ceiling-low}
use Rattle.parallel_bound.proofs.Sums.{has-share, order}

-- the loads of a set are no more than all
set-loads : (set : List ℕ) (moves : List Move) → loads_of set moves ≤ loads moves
set-loads set moves = omega (arith, disjoint_loads moves (set ∷ []) (tt, tt), sum_by-cons (λ (one : List ℕ). loads_of one moves) set [])

positive : (a b : ℕ) → 1 ≤ a → 1 ≤ b → 1 ≤ a * b
positive zero b h g = absurd (omega (arith, h))
positive (suc a) b h g = omega (arith, g)

module _ (merge : ParallelPebblingsMerge) (runs : ProcessorsMakeRuns) (share : SomeComputesItsShare) (program : AffineProgram) (values : List ℤ) (processors s : ℕ) (steps : List ParallelMove)
    (admitted : IsAdmitted program values) (some : 1 ≤ processors) (some_red : 1 ≤ s) (game : IsCompleteParallelPebbling (computation_graph program values) processors s steps) where
  -- some processor makes so many loads
  abbrev SomeLoads : ℕ → Type 0
  SomeLoads n = (busiest : ℕ) × (busiest < processors) × (n ≤ loads (moves_by busiest steps))

  no-loads : SomeLoads 0
  no-loads = (0, omega (arith, some), omega arith)

  greater : (a b : ℕ) → SomeLoads a → SomeLoads b → SomeLoads (max a b)
  greater a b first second = by (order a b) where
    by : (a ≤ b) ⊎ (b ≤ a) → SomeLoads (max a b)
    by (inl less) = (second.0, second.1, omega (arith, less, second.2))
    by (inr more) = (first.0, first.1, omega (arith, more, first.2))

  greatest-of : {A : Type 0} (f : A → ℕ) (n : ℕ) (xs : List A) → SomeLoads n → AllByRecursion (λ x. SomeLoads (f x)) xs → SomeLoads (fold max n (map f xs))
  greatest-of f n [] least each = least
  greatest-of f n (x ∷ xs) least each = greatest-of f (max n (f x)) xs (greater n (f x) least each.0) each.1

  -- ---- what all load together

  abbrev together : List Move
  together = (merge (computation_graph program values) processors s steps game).moves

  shared-low : (term : BoundTerm) (footprint : Footprint) → CostsItsValue program term footprint → shared_part term values processors s ≤ loads_of (footprint values) together
  shared-low (cold count) footprint costs = costs.loaded values (processors * s) together admitted (positive processors s some some_red) (merge (computation_graph program values) processors s steps game).complete
  shared-low (wavefront pairs outer) footprint costs =
      costs.loaded values (processors * s) together admitted (positive processors s some some_red) (merge (computation_graph program values) processors s steps game).complete
  shared-low (partition count credits numbers) footprint costs = omega arith
  shared-low (joint count credits numbers) footprint costs = omega arith

  all-shared-low : (terms : List BoundTerm) (footprints : List Footprint) → CostTheirValues program terms footprints
      → sum_by (λ term. shared_part term values processors s) terms ≤ sum_by (λ set. loads_of set together) (map (λ (footprint : Footprint). footprint values) footprints)
  all-shared-low [] [] each = omega arith
  all-shared-low [] (footprint ∷ footprints) each = absurd each
  all-shared-low (term ∷ terms) [] each = absurd each
  all-shared-low (term ∷ terms) (footprint ∷ footprints) each =
      omega (
        arith,
        sum_by-cons (λ (t : BoundTerm). shared_part t values processors s) term terms,
        sum_by-cons (λ (set : List ℕ). loads_of set together) (footprint values) (map (λ (f : Footprint). f values) footprints),
        shared-low term footprint each.0,
        all-shared-low terms footprints each.1,
      )

  shared-is-loaded : (terms : List BoundTerm) → IsSplitBranch program terms → SomeLoads (ceiling (sum (map (λ term. shared_part term values processors s) terms)) processors)
  shared-is-loaded terms branch =
      let found = has-share processors (λ who. loads (moves_by who steps)) some in (
        found.0,
        found.1,
        ceiling-low (sum (map (λ term. shared_part term values processors s) terms)) processors (loads (moves_by found.0 steps)) some
            (omega (
              arith,
              sum-map (λ (term : BoundTerm). shared_part term values processors s) terms,
              all-shared-low terms branch.footprints branch.each,
              disjoint_loads together (map (λ (footprint : Footprint). footprint values) branch.footprints) (branch.apart values admitted),
              (merge (computation_graph program values) processors s steps game).all,
              found.2,
            )),
      )

  -- ---- what one loads

  stretches-are-loaded : (count credits : Polynomial) (numbers : StretchNumbers) (footprint : Footprint)
      → (points : Footprint) × SharesAmongRuns program (count_value count) (count_value credits) numbers points footprint → SomeLoads (own_stretches count credits numbers values processors s)
  stretches-are-loaded count credits numbers footprint split =
      let points : List ℕ = split.0 values in
      let there : AllByRecursion (λ (v : ℕ). v < (computation_graph program values).instances) points =
      All-from (λ (v : ℕ). v < (computation_graph program values).instances) points (λ v m. split.1.instances values v admitted (member-stands points v m)) in
      let found = share (computation_graph program values) processors s steps points game some there in
      let run = runs (computation_graph program values) processors s found.0 steps game found.1 in
      let few : ceiling (count_value count values) processors ≤ length (computed_among points (moves_by found.0 steps)) =
      subst (λ (n : ℕ). ceiling n processors ≤ length (computed_among points (moves_by found.0 steps))) (split.1.many values admitted) found.2 in (
        found.0,
        found.1,
        omega (
          arith,
          split.1.loaded values s (ceiling (count_value count values) processors) (replicate (vertices (computation_graph program values)) false) (moves_by found.0 steps) admitted run.0 run.1 few,
          set-loads (footprint values) (moves_by found.0 steps),
        ),
      )

  own-is-loaded : (term : BoundTerm) (footprint : Footprint) → IsSplit program term footprint → SomeLoads (own_part term values processors s)
  own-is-loaded (cold count) footprint split = no-loads
  own-is-loaded (wavefront pairs outer) footprint split = no-loads
  own-is-loaded (partition count credits numbers) footprint split = stretches-are-loaded count credits numbers footprint split
  own-is-loaded (joint count credits numbers) footprint split = stretches-are-loaded count credits numbers footprint split

  all-own-are-loaded : (terms : List BoundTerm) (footprints : List Footprint) → AllZip (IsSplit program) terms footprints → AllByRecursion (λ term. SomeLoads (own_part term values processors s)) terms
  all-own-are-loaded [] [] split = tt
  all-own-are-loaded [] (footprint ∷ footprints) split = absurd split
  all-own-are-loaded (term ∷ terms) [] split = absurd split
  all-own-are-loaded (term ∷ terms) (footprint ∷ footprints) split = (own-is-loaded term footprint split.0, all-own-are-loaded terms footprints split.1)

  all-are-loaded : (branches : List (List BoundTerm)) → AllByRecursion (IsSplitBranch program) branches → AllByRecursion (λ terms. SomeLoads (parallel_branch_value terms values processors s)) branches
  all-are-loaded [] split = tt
  all-are-loaded (terms ∷ branches) split = (
    greatest-of (λ term. own_part term values processors s) (ceiling (sum (map (λ term. shared_part term values processors s) terms)) processors) terms
        (shared-is-loaded terms split.0) (all-own-are-loaded terms split.0.footprints split.0.split),
    all-are-loaded branches split.1,
  )

  pub bound-is-loaded : (bound : Bound) → AllByRecursion (IsSplitBranch program) bound.branches → SomeLoads (parallel_value bound values processors s)
  bound-is-loaded bound split = greatest-of (λ terms. parallel_branch_value terms values processors s) 0 bound.branches no-loads (all-are-loaded bound.branches split)

pub split-branches-hold : ParallelPebblingsMerge → ProcessorsMakeRuns → SomeComputesItsShare → SplitBranchesHoldInParallel
split-branches-hold merge runs share program bound split values processors s steps admitted some some_red game =
    bound-is-loaded merge runs share program values processors s steps admitted some some_red game bound split
