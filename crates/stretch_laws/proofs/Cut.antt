-- Moves are cut after so many events each time: points that are computed take events.
use Rattle.std.proofs.Common.{◌≡◌, refl, sym, ◌∙◌, ap, subst, inl, inr, ℕ, zero, suc, ◌+◌, ◌*◌, ◌<◌, ◌≤◌, Bool, true, false, cond, List, [], ◌∷◌, ◌++◌, length, arith}
use Rattle.std.specs.Prelude.{◌⊎◌, ◌||◌, nat_eq, count_by}
use Rattle.std.proofs.lemmas.List.Sums.{sum_by-cons, length-filter}
use Rattle.iolb_model.specs.declared.game.Move.{Move}
use Rattle.iolb_model.specs.declared.game.Move.TheVariants.{Load, Store, Compute, Drop, Erase}
use Rattle.iolb_model.specs.Graph.{ComputationGraph}
use Rattle.iolb_model.specs.Game.{stands_in}
use Rattle.stretch_laws.specs.Laws.{PointsTakeEvents, StretchesAreRedRuns, StretchesHoldPoints, events, points_computed}
use Rattle.stretch_laws.specs.Reuse.{CountedPoint, JointPartition, joint_words}
use Rattle.stretch_laws.specs.Runs.{IsRedRun, computed_vertices, final_red, is_event_of, red_after}

-- ---- two lists of moves, one after the other

module _ (graph : ComputationGraph) (s : ℕ) where
  run-behind : (red : List Bool) (first rest : List Move) → IsRedRun graph s red (first ++ rest) → IsRedRun graph s (final_red red first) rest
  run-behind red [] rest run = run
  run-behind red (move ∷ first) rest run = run-behind (red_after red move) first rest run.2

  few-red : (red : List Bool) (moves : List Move) → IsRedRun graph s red moves → IsRedRun graph s red []
  few-red red [] run = run
  few-red red (move ∷ moves) run = run.0

  run-before : (red : List Bool) (first rest : List Move) → IsRedRun graph s red (first ++ rest) → IsRedRun graph s red first
  run-before red [] rest run = few-red red rest run
  run-before red (move ∷ first) rest run = (run.0, run.1, run-before (red_after red move) first rest run.2)

module _ (partition : JointPartition) where
  -- whether a move is an event
  abbrev is_event : Move → Bool
  is_event move = is_event_of (joint_words partition) partition.credited move

  events-append : (first rest : List Move) → events partition (first ++ rest) ≡ events partition first + events partition rest
  events-append [] rest = omega arith
  events-append (move ∷ first) rest =
      omega (
        arith,
        sum_by-cons (λ (m : Move). cond (is_event m) 1 0) move (first ++ rest),
        sum_by-cons (λ (m : Move). cond (is_event m) 1 0) move first,
        events-append first rest,
      )

  computed-append : (first rest : List Move) → computed_vertices (first ++ rest) ≡ computed_vertices first ++ computed_vertices rest
  computed-append [] rest = refl
  computed-append (Load v ∷ first) rest = computed-append first rest
  computed-append (Store v ∷ first) rest = computed-append first rest
  computed-append (Compute v ∷ first) rest = ap (λ (l : List ℕ). v ∷ l) (computed-append first rest)
  computed-append (Drop v ∷ first) rest = computed-append first rest
  computed-append (Erase v ∷ first) rest = computed-append first rest

  stands-append : (xs ys : List ℕ) (v : ℕ) → stands_in (xs ++ ys) v ≡ (stands_in xs v || stands_in ys v)
  stands-append [] ys v = refl
  stands-append (x ∷ xs) ys v = ap (λ (b : Bool). nat_eq v x || b) (stands-append xs ys v) ∙ turned (nat_eq v x) (stands_in xs v) (stands_in ys v) where
    turned : (a b c : Bool) → (a || (b || c)) ≡ ((a || b) || c)
    turned true b c = refl
    turned false b c = refl

  filtered-or : {X : Type 0} (p q r : X → Bool) → ((x : X) → p x ≡ (q x || r x)) → (xs : List X) → count_by p xs ≤ count_by q xs + count_by r xs
  filtered-or p q r or [] = omega arith
  filtered-or {X} p q r or (x ∷ xs) =
      let head : cond (p x) 1 0 ≤ cond (q x) 1 0 + cond (r x) 1 0 = subst (λ (b : Bool). cond b 1 0 ≤ cond (q x) 1 0 + cond (r x) 1 0) (sym (or x)) (by (q x) (r x)) in
      omega (
        arith,
        sum_by-cons (λ (v : X). cond (p v) 1 0) x xs,
        sum_by-cons (λ (v : X). cond (q v) 1 0) x xs,
        sum_by-cons (λ (v : X). cond (r v) 1 0) x xs,
        head,
        filtered-or p q r or xs,
      ) where
        by : (b c : Bool) → cond (b || c) 1 0 ≤ cond b 1 0 + cond c 1 0
        by true true = omega arith
        by true false = omega arith
        by false true = omega arith
        by false false = omega arith

  abbrev is_computed : List Move → CountedPoint → Bool
  is_computed moves point = stands_in (computed_vertices moves) point.vertex

  -- the points of both are at most those of the one and of the other
  points-append : (first rest : List Move) → length (points_computed partition (first ++ rest)) ≤ length (points_computed partition first) + length (points_computed partition rest)
  points-append first rest =
      omega (
        arith,
        length-filter (is_computed (first ++ rest)) partition.points,
        length-filter (is_computed first) partition.points,
        length-filter (is_computed rest) partition.points,
        filtered-or (is_computed (first ++ rest)) (is_computed first) (is_computed rest)
            (λ point. ap (λ (l : List ℕ). stands_in l point.vertex) (computed-append first rest) ∙ stands-append (computed_vertices first) (computed_vertices rest) point.vertex) partition.points,
      )

  -- ---- a cut

  -- the moves up to the t-th event, if there are so many, and the rest
  record Cut (t : ℕ) (moves : List Move) : Type 0 where
    first : List Move
    rest : List Move
    whole : moves ≡ first ++ rest
    enough : (events partition first ≡ t) ⊎ ((events partition first ≤ t) × (rest ≡ []))

  event-more : (move : Move) (moves : List Move) → events partition (move ∷ moves) ≡ cond (is_event move) 1 0 + events partition moves
  event-more move moves = sum_by-cons (λ (m : Move). cond (is_event m) 1 0) move moves

  with-move : (move : Move) (moves : List Move) (t n : ℕ) → cond (is_event move) 1 0 + t ≡ n → Cut t moves → Cut n (move ∷ moves)
  with-move move moves t n e cut = record {
    first = move ∷ cut.first;
    rest = cut.rest;
    whole = ap (λ (l : List Move). move ∷ l) cut.whole;
    enough = by cut.enough;
  } where
    by : (events partition cut.first ≡ t) ⊎ ((events partition cut.first ≤ t) × (cut.rest ≡ [])) → (events partition (move ∷ cut.first) ≡ n) ⊎ ((events partition (move ∷ cut.first) ≤ n) × (cut.rest ≡ []))
    by (inl f) = inl (omega (arith, event-more move cut.first, f, e))
    by (inr f) = inr (omega (arith, event-more move cut.first, f.0, e), f.1)

  cut_at : (t : ℕ) (moves : List Move) → Cut t moves
  cut_at t [] = record { first = []; rest = []; whole = refl; enough = inr (omega arith, refl) }
  cut_at zero (move ∷ moves) = record { first = []; rest = move ∷ moves; whole = refl; enough = inl refl }
  cut_at (suc t) (move ∷ moves) = by (is_event move) refl (cut_at t moves) (cut_at (suc t) moves) where
    by : (b : Bool) → b ≡ is_event move → Cut t moves → Cut (suc t) moves → Cut (suc t) (move ∷ moves)
    by true e less same = with-move move moves t (suc t) (ap (λ (c : Bool). cond c 1 0 + t) (sym e) ∙ omega arith) less
    by false e less same = with-move move moves (suc t) (suc t) (ap (λ (c : Bool). cond c 1 0 + suc t) (sym e) ∙ omega arith) same

  -- Where at most u points go into t events, more than j times u points take at least j times t events.
  takes-events : (graph : ComputationGraph) (s t u : ℕ)
      → ((red : List Bool) (moves : List Move) → IsRedRun graph s red moves → events partition moves ≤ t → length (points_computed partition moves) ≤ u)
      → (j : ℕ) (red : List Bool) (moves : List Move) → IsRedRun graph s red moves → j * u < length (points_computed partition moves) → j * t ≤ events partition moves
  takes-events graph s t u bound zero red moves run many = omega arith
  takes-events graph s t u bound (suc j) red moves run many =
      let cut = cut_at t moves in
      let split : IsRedRun graph s red (cut.first ++ cut.rest) = subst (IsRedRun graph s red) cut.whole run in
      let before : IsRedRun graph s red cut.first = run-before graph s red cut.first cut.rest split in
      let points = ap (λ (l : List Move). length (points_computed partition l)) cut.whole in
      by cut before (run-behind graph s red cut.first cut.rest split) points (takes-events graph s t u bound j) cut.enough where
        by : (c : Cut t moves) → IsRedRun graph s red c.first → IsRedRun graph s (final_red red c.first) c.rest
            → length (points_computed partition moves) ≡ length (points_computed partition (c.first ++ c.rest))
            → ((r : List Bool) (ms : List Move) → IsRedRun graph s r ms → j * u < length (points_computed partition ms) → j * t ≤ events partition ms)
            → (events partition c.first ≡ t) ⊎ ((events partition c.first ≤ t) × (c.rest ≡ [])) → suc j * t ≤ events partition moves
        by c before behind points further (inl e) =
            let few : length (points_computed partition c.first) ≤ u = bound red c.first before (omega (arith, e)) in
            let later : j * u < length (points_computed partition c.rest) = omega (arith, many, points, points-append c.first c.rest, few) in
            omega (arith, further (final_red red c.first) c.rest behind later, events-append c.first c.rest, ap (events partition) c.whole, e)
        by c before behind points further (inr (few, ended)) =
            let same : length (points_computed partition (c.first ++ c.rest)) ≡ length (points_computed partition c.first)
            = ap (λ (l : List Move). length (points_computed partition (c.first ++ l))) ended ∙ ap (λ (l : List Move). length (points_computed partition l)) (append-none c.first) in
            absurd (omega (arith, many, points, same, bound red c.first before few)) where
              append-none : (l : List Move) → l ++ [] ≡ l
              append-none [] = refl
              append-none (m ∷ l) = ap (λ (k : List Move). m ∷ k) (append-none l)

-- ---- the laws

pub stretches-are-red-runs : StretchesAreRedRuns
stretches-are-red-runs graph s red before stretch after run = run-behind graph s red before stretch (run-before graph s red (before ++ stretch) after run)

pub take-events : StretchesHoldPoints → PointsTakeEvents
take-events hold graph q num den s t u partition red moves sound factor greatest run j many =
    takes-events partition graph s t u (λ r ms started few. hold graph q num den s t u partition r ms sound factor greatest started few) j red moves run many
