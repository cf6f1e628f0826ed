-- Complete pebblings keep to the red pebbles, and compute each instance once.
use Rattle.std.proofs.Common.{◌≡◌, refl, sym, ◌∙◌, ap, inl, inr, ℕ, zero, suc, ◌+◌, ◌<◌, ◌≤◌, ◌≢◌, Bool, true, false, cond, List, [], ◌∷◌, length, set, arith, IsTrue}
use Rattle.std.specs.Prelude.{◌⊎◌, ◌||◌, nat_eq, filter}
use Rattle.std.specs.List.{AllByRecursion, IsDistinct}
use Rattle.std.proofs.lemmas.Bool.{ne_eqb, cases_eq, or_parts}
use Rattle.std.proofs.lemmas.List.{get_or-set_other, get_or-set_same, length-set, length-replicate}
use Rattle.std.proofs.lemmas.List.Sums.{sum_by-cons}
use Rattle.execution_laws.proofs.Members.{Member}
use Rattle.execution_laws.proofs.Ordered.{All-member}
use Rattle.iolb_model.specs.declared.game.Move.{Move}
use Rattle.iolb_model.specs.declared.game.Move.TheVariants.{Load, Store, Compute, Drop, Erase}
use Rattle.iolb_model.specs.Graph.{ComputationGraph}
use Rattle.iolb_model.specs.Game.{AreAllowed, Board, IsCompletePebbling, board_after, final_board, first_board, mark_count, marked, stands_in, vertices}
use Rattle.stretch_laws.specs.Laws.{CompletePebblingsAreRuns, DifferentComputationsAreFew, JointsAreLoaded, RunsAreLoaded, points_computed}
use Rattle.stretch_laws.specs.Reuse.{CountedPoint, JointPartition}
use Rattle.stretch_laws.specs.Runs.{IsRedRun, computations_of, computed_vertices}
use Rattle.pebble_game.proofs.Marks.{count-put, member-stands, unmarked-at, none-marked}

-- ---- red pebbles

pub count-cons : (b : Bool) (marks : List Bool) → mark_count (b ∷ marks) ≡ cond b 1 0 + mark_count marks
count-cons b marks = sum_by-cons (λ (mark : Bool). cond mark 1 0) b marks

pub count-again : (marks : List Bool) (v : ℕ) → marked marks v ≡ true → mark_count (set marks v true) ≡ mark_count marks
count-again [] v h = refl
count-again (b ∷ marks) zero h = ap (λ (c : Bool). mark_count (c ∷ marks)) (sym h)
count-again (b ∷ marks) (suc v) h = omega (arith, count-cons b (set marks v true), count-cons b marks, count-again marks v h)

pub count-taken : (marks : List Bool) (v : ℕ) → mark_count (set marks v false) ≤ mark_count marks
count-taken [] v = omega arith
count-taken (b ∷ marks) zero = omega (arith, count-cons false marks, count-cons b marks)
count-taken (b ∷ marks) (suc v) = omega (arith, count-cons b (set marks v false), count-cons b marks, count-taken marks v)

module _ (graph : ComputationGraph) (s : ℕ) where
  red-run : (board : Board) (moves : List Move) → mark_count board.red ≤ s → AreAllowed graph s board moves → IsRedRun graph s board.red moves
  red-run board [] few allowed = few
  red-run board (Load v ∷ moves) few allowed = (few, tt, red-run (board_after board (Load v)) moves (by allowed.0.1) allowed.1) where
    by : IsTrue (marked board.red v) ⊎ (mark_count board.red < s) → mark_count (set board.red v true) ≤ s
    by (inl here) = omega (arith, few, count-again board.red v here)
    by (inr less) = omega (arith, less, count-put board.red v)
  red-run board (Store v ∷ moves) few allowed = (few, tt, red-run (board_after board (Store v)) moves few allowed.1)
  red-run board (Compute v ∷ moves) few allowed =
      (few, (allowed.0.0, allowed.0.2), red-run (board_after board (Compute v)) moves (omega (arith, allowed.0.3, count-put board.red v)) allowed.1)
  red-run board (Drop v ∷ moves) few allowed = (few, tt, red-run (board_after board (Drop v)) moves (omega (arith, few, count-taken board.red v)) allowed.1)
  red-run board (Erase v ∷ moves) few allowed = (few, tt, red-run (board_after board (Erase v)) moves few allowed.1)

  -- ---- instances

  -- what is computed in the end and wasn't at first is computed by a move
  is-computed : (board : Board) (moves : List Move) (v : ℕ) → marked (final_board board moves).computed v ≡ true → marked board.computed v ≡ false → Member v (computed_vertices moves)
  is-computed board [] v after before = cc
  is-computed board (Load w ∷ moves) v after before = is-computed (board_after board (Load w)) moves v after before
  is-computed board (Store w ∷ moves) v after before = is-computed (board_after board (Store w)) moves v after before
  is-computed board (Compute w ∷ moves) v after before =
      by (cases_eq v w) (λ apart. is-computed (board_after board (Compute w)) moves v after (get_or-set_other board.computed w v true false apart ∙ before)) where
        by : (v ≡ w) ⊎ (v ≢ w) → ((v ≢ w) → Member v (computed_vertices moves)) → Member v (w ∷ computed_vertices moves)
        by (inl e) later = inl e
        by (inr apart) later = inr (later apart)
  is-computed board (Drop w ∷ moves) v after before = is-computed (board_after board (Drop w)) moves v after before
  is-computed board (Erase w ∷ moves) v after before = is-computed (board_after board (Erase w)) moves v after before

  apart-from-all : (w : ℕ) (xs : List ℕ) → stands_in xs w ≡ false → AllByRecursion (λ (y : ℕ). nat_eq w y ≡ false) xs
  apart-from-all w [] h = tt
  apart-from-all w (x ∷ xs) h = let both = or_parts (nat_eq w x) (stands_in xs w) h in (both.0, apart-from-all w xs both.1)

  -- no instance is computed again
  record IsOnce (board : Board) (moves : List Move) : Type 0 where
    distinct : IsDistinct nat_eq (computed_vertices moves)
    fresh : (v : ℕ) → marked board.computed v ≡ true → stands_in (computed_vertices moves) v ≡ false

  computed-once : (board : Board) (moves : List Move) → graph.instances ≤ length board.computed → AreAllowed graph s board moves → IsOnce board moves
  unfolding IsDistinct
  computed-once board [] wide allowed = record { distinct = tt; fresh = λ v h. refl }
  computed-once board (Load w ∷ moves) wide allowed = let later = computed-once (board_after board (Load w)) moves wide allowed.1 in record { distinct = later.distinct; fresh = later.fresh }
  computed-once board (Store w ∷ moves) wide allowed = let later = computed-once (board_after board (Store w)) moves wide allowed.1 in record { distinct = later.distinct; fresh = later.fresh }
  computed-once board (Compute w ∷ moves) wide allowed =
      let later = computed-once (board_after board (Compute w)) moves (omega (arith, wide, length-set board.computed w true)) allowed.1 in
      let here : marked (set board.computed w true) w ≡ true = get_or-set_same board.computed w true false (omega (arith, wide, allowed.0.0)) in record {
        distinct = (apart-from-all w (computed_vertices moves) (later.fresh w here), later.distinct);
        fresh = λ v on. let apart : v ≢ w = λ e. other v on e in
            both (nat_eq v w) (stands_in (computed_vertices moves) v) (ne_eqb v w apart) (later.fresh v (get_or-set_other board.computed w v true false apart ∙ on));
      } where
        other : (v : ℕ) → marked board.computed v ≡ true → v ≡ w → ⊥
        other v on e = let off : marked board.computed v ≡ false = ap (marked board.computed) e ∙ allowed.0.1 in cc

        both : (a b : Bool) → a ≡ false → b ≡ false → (a || b) ≡ false
        both true b p q = absurd cc
        both false b p q = q
  computed-once board (Drop w ∷ moves) wide allowed = let later = computed-once (board_after board (Drop w)) moves wide allowed.1 in record { distinct = later.distinct; fresh = later.fresh }
  computed-once board (Erase w ∷ moves) wide allowed = let later = computed-once (board_after board (Erase w)) moves wide allowed.1 in record { distinct = later.distinct; fresh = later.fresh }

-- all are left by a test that each passes
pub all-left : {X : Type 0} (test : X → Bool) (xs : List X) → ((x : X) → Member x xs → test x ≡ true) → length (filter test xs) ≡ length xs
all-left test [] h = refl
all-left test (x ∷ xs) h =
    ap (λ (b : Bool). length (cond b (x ∷ filter test xs) (filter test xs))) (h x (inl refl)) ∙ ap suc (all-left test xs (λ v m. h v (inr m)))

pub complete-pebblings-are-runs : CompletePebblingsAreRuns
complete-pebblings-are-runs graph s moves game = (
  red-run graph s (first_board graph) moves (omega (arith, none-marked (vertices graph))) game.allowed,
  once.distinct,
  λ v below. member-stands (computed_vertices moves) v (is-computed graph s (first_board graph) moves v (game.computed v below) (unmarked-at (vertices graph) v)),
) where
  once : IsOnce graph s (first_board graph) moves
  once = computed-once graph s (first_board graph) moves (omega (arith, length-replicate (vertices graph) false)) game.allowed

module _ (runs : CompletePebblingsAreRuns) (different : DifferentComputationsAreFew) (graph : ComputationGraph) (s : ℕ) (partition : JointPartition) (moves : List Move)
    (are : AllByRecursion (λ (point : CountedPoint). point.vertex < graph.instances) partition.points) (game : IsCompletePebbling graph s moves) where
  -- so its points are as many as those that are computed
  points-many : length partition.points ≤ length (points_computed partition moves)
  points-many =
      omega (
        arith,
        all-left (λ (point : CountedPoint). stands_in (computed_vertices moves) point.vertex) partition.points
            (λ point m. (runs graph s moves game).2 point.vertex (All-member (λ (p : CountedPoint). p.vertex < graph.instances) partition.points point are m)),
      )

  credits-few : computations_of partition.credited moves ≤ length partition.credited
  credits-few = different partition.credited moves (runs graph s moves game).1

pub joints-loaded : RunsAreLoaded → DifferentComputationsAreFew → CompletePebblingsAreRuns → JointsAreLoaded
joints-loaded loaded different runs graph q num den s t u partition moves sound are factor greatest game =
    omega (
      arith,
      loaded graph q num den s t u (length partition.points) partition (first_board graph).red moves sound factor greatest (runs graph s moves game).0
          (points-many runs different graph s partition moves are game),
      credits-few runs different graph s partition moves are game,
    )
