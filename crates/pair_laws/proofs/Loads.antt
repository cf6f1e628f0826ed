-- So runs, and complete pebblings, load words.
use Rattle.std.proofs.Common.{subst, ℕ, ◌+◌, ◌-◌, ◌*◌, ◌/◌, ◌≤◌, ◌<◌, max, List, length, arith, mul-le-mul_left, inl, inr}
use Rattle.std.proofs.Math.Nat.{div-mul-le_self, mul_comm}
use Rattle.std.specs.Prelude.{◌⊎◌}
use Rattle.std.specs.List.{AllByRecursion}
use Rattle.execution_laws.proofs.Ordered.{All-member}
use Rattle.iolb_model.specs.declared.game.Move.{Move}
use Rattle.iolb_model.specs.Graph.{ComputationGraph}
use Rattle.iolb_model.specs.Game.{IsCompletePebbling, first_board, stands_in, vertices}
use Rattle.pebble_game.proofs.Marks.{none-marked}
use Rattle.stretch_laws.specs.Laws.{CompletePebblingsAreRuns, DifferentComputationsAreFew, points_computed}
use Rattle.stretch_laws.specs.Reuse.{CountedPoint}
use Rattle.stretch_laws.specs.Runs.{computations_of, computed_vertices}
use Rattle.stretch_laws.proofs.CompletePebblings.{all-left}
use Rattle.pair_laws.specs.Laws.{PairsAreLoaded, PointsTakeMeetings, RunsMeetPairs, events, points_of_event}
use Rattle.pair_laws.specs.Pairs.{PairPartition, labels_of_two, one_group}

-- what a number of events brings takes so many, rounded up
rounded-up : (n u e : ℕ) → 1 ≤ n → n ≤ u * e → (n - 1) / u + 1 ≤ e
rounded-up n u e some within = by (split e ((n - 1) / u)) where
  split : (a b : ℕ) → (b + 1 ≤ a) ⊎ (a ≤ b)
  split a b = grind arith

  by : ((n - 1) / u + 1 ≤ e) ⊎ (e ≤ (n - 1) / u) → (n - 1) / u + 1 ≤ e
  by (inl enough) = enough
  by (inr less) =
      absurd (omega (arith, some, within, mul-le-mul_left u less, mul_comm u ((n - 1) / u), div-mul-le_self (n - 1) u))

-- s - 1 labels of two are no more than an event's points
labels-few : (labels s : ℕ) → labels * (s - 1) ≤ labels * max (s - 1) 1
labels-few labels s = mul-le-mul_left labels less where
  less : s - 1 ≤ max (s - 1) 1
  less = omega arith

pub runs-meet-pairs : PointsTakeMeetings → RunsMeetPairs
runs-meet-pairs take graph s n pairs red moves sound run none some few =
    rounded-up n (points_of_event pairs s) (events pairs moves) some (omega (arith, few, twice, wider)) where
      twice : length (points_computed (one_group pairs) moves) ≤ labels_of_two pairs * (s - 1) * events pairs moves
      twice =
          let both = take graph s pairs red moves sound run in
          let bare = subst (λ (c : ℕ). 2 * length (points_computed (one_group pairs) moves) + labels_of_two pairs * c
          ≤ 2 * (labels_of_two pairs * (s - 1) * events pairs moves) + labels_of_two pairs * (c * c)) none both in
          omega (arith, bare)

      wider : labels_of_two pairs * (s - 1) * events pairs moves ≤ points_of_event pairs s * events pairs moves
      wider =
          omega (
            arith,
            mul-le-mul_left (events pairs moves) (labels-few (labels_of_two pairs) s),
            mul_comm (events pairs moves) (labels_of_two pairs * (s - 1)),
            mul_comm (events pairs moves) (labels_of_two pairs * max (s - 1) 1),
          )

module _ (runs : CompletePebblingsAreRuns) (different : DifferentComputationsAreFew) (graph : ComputationGraph) (s : ℕ) (pairs : PairPartition) (moves : List Move)
    (are : AllByRecursion (λ (point : CountedPoint). point.vertex < graph.instances) pairs.points) (game : IsCompletePebbling graph s moves) where
  -- each point is computed
  points-many : length pairs.points ≤ length (points_computed (one_group pairs) moves)
  points-many =
      omega (
        arith,
        all-left (λ (point : CountedPoint). stands_in (computed_vertices moves) point.vertex) pairs.points
            (λ point m. (runs graph s moves game).2 point.vertex (All-member (λ (p : CountedPoint). p.vertex < graph.instances) pairs.points point are m)),
      )

  credits-few : computations_of pairs.credited moves ≤ length pairs.credited
  credits-few = different pairs.credited moves (runs graph s moves game).1

pub pairs-are-loaded : RunsMeetPairs → DifferentComputationsAreFew → CompletePebblingsAreRuns → PairsAreLoaded
pairs-are-loaded meet different runs graph s pairs moves sound are game some =
    omega (
      arith,
      meet graph s (length pairs.points) pairs (first_board graph).red moves sound (runs graph s moves game).0 (none-marked (vertices graph)) some (points-many runs different graph s pairs moves are game),
      credits-few runs different graph s pairs moves are game,
    )
