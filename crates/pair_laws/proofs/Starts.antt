-- Different points have different labels of their two starts, so there are at most as many as labels that are held.
use Rattle.std.proofs.Common.{◌≡◌, refl, sym, ◌∙◌, ap, subst, inl, inr, ℕ, ◌+◌, ◌*◌, ◌≤◌, ◌<◌, Bool, true, false, cond, ◌&&◌, ◌-◌, List, [], ◌∷◌, ◌++◌, length, map, arith, length-append, IsTrue, ℤ}
use Rattle.std.specs.Prelude.{◌⊎◌, Contains, filter}
use Rattle.std.specs.Bool.{Decides}
use Rattle.std.specs.Cmp.{IsEquivalence, decided}
use Rattle.std.specs.List.{AllByRecursion, IsDistinct}
use Rattle.std.proofs.lemmas.Bool.{and_parts, false≢true}
use Rattle.std.proofs.lemmas.List.{length-map}
use Rattle.std.proofs.lemmas.Map.Made.{is_member-Decides, length-le_from_is_member}
use Rattle.base_laws.proofs.Lists.{All-map}
use Rattle.execution_laws.proofs.Members.{Member, Member-append_left, Member-append_right, Contains-member}
use Rattle.execution_laws.proofs.Ordered.{All-from}
use Rattle.iolb_model.specs.declared.game.Move.{Move}
use Rattle.iolb_model.specs.Graph.{ComputationGraph}
use Rattle.iolb_model.specs.Game.{mark_count, stands_in}
use Rattle.pebble_game.proofs.Marks.{all-contained, length-marked_from, marked_from, standing-member}
use Rattle.uniform_cover.specs.Projection.{same_point}
use Rattle.uniform_cover.proofs.ProjectionLemmas.{point_decides}
use Rattle.stretch_laws.specs.Laws.{points_computed}
use Rattle.stretch_laws.specs.Reuse.{CountedPoint, coordinate_of}
use Rattle.stretch_laws.specs.Runs.{IsRedRun, computed_vertices}
use Rattle.stretch_laws.proofs.Points.{counted-decides, distinct-left, points-distinct, same_counted, told-apart}
use Rattle.pair_laws.specs.Laws.{PointsTakeMeetings, events}
use Rattle.pair_laws.specs.Pairs.{IsSoundPairs, PairPartition, labels_of_two, one_group}
use Rattle.pair_laws.proofs.TwoWords.{Labels, among, among-few, among-held}
use Rattle.pair_laws.proofs.Brought.{brought, brought-few, red-member}
use Rattle.pair_laws.proofs.Held.{AreRedHeld, starts-held}

-- ---- two labels

abbrev same_labels : Labels → Labels → Bool
same_labels one other = same_point one.0 other.0 && same_point one.1 other.1

of-parts : (a b x y : List ℤ) → a ≡ b → x ≡ y → ◌≡◌ {A = Labels} (a, x) (b, y)
of-parts a b x y e f = cc

both-true : (a b : Bool) → a ≡ true → b ≡ true → (a && b) ≡ true
both-true true b e f = f
both-true false b e f = e

labels-decide : (one other : Labels) → Decides (same_labels one other) (one ≡ other)
labels-decide one other = (
  λ e. let both = and_parts (same_point one.0 other.0) (same_point one.1 other.1) e in
      of-parts one.0 other.0 one.1 other.1 ((point_decides one.0 other.0).0 both.0) ((point_decides one.1 other.1).0 both.1),
  λ e. both-true (same_point one.0 other.0) (same_point one.1 other.1)
      ((point_decides one.0 other.0).1 (ap (λ (two : Labels). two.0) e)) ((point_decides one.1 other.1).1 (ap (λ (two : Labels). two.1) e)),
)

labels-equiv : IsEquivalence same_labels
labels-equiv = decided same_labels labels-decide

-- what is left by a test is a member and passes it
left-member : {X : Type 0} (test : X → Bool) (xs : List X) (x : X) → Member x (filter test xs) → Member x xs × (test x ≡ true)
left-member test [] x m = absurd m
left-member {X} test (y ∷ xs) x m = by (test y) refl m (left-member test xs x) where
  by : (b : Bool) → test y ≡ b → Member x (cond b (y ∷ filter test xs) (filter test xs)) → (Member x (filter test xs) → Member x xs × (test x ≡ true)) → Member x (y ∷ xs) × (test x ≡ true)
  by true is (inl e) rest = (inl e, ap test e ∙ is)
  by true is (inr n) rest = let r = rest n in (inr r.0, r.1)
  by false is n rest = let r = rest n in (inr r.0, r.1)

-- ---- the starts of points

module _ (graph : ComputationGraph) (pairs : PairPartition) (sound : IsSoundPairs graph pairs) where
  abbrev starts : CountedPoint → Labels
  starts point = (pairs.first.start point, pairs.second.start point)

  agree : (one other : CountedPoint) → Member one pairs.points → Member other pairs.points → starts one ≡ starts other
      → (i : ℕ) → i < pairs.dimensions → coordinate_of one i ≡ coordinate_of other i
  agree one other m n e i below = by (sound.covered i below) where
    by : IsTrue (pairs.first.has i) ⊎ IsTrue (pairs.second.has i) → coordinate_of one i ≡ coordinate_of other i
    by (inl has) =
        sound.first_fixes one other (Contains-member one pairs.points m) (Contains-member other pairs.points n) (ap (λ (two : Labels). two.0) e) i below has
    by (inr has) =
        sound.second_fixes one other (Contains-member one pairs.points m) (Contains-member other pairs.points n) (ap (λ (two : Labels). two.1) e) i below has

  -- points with the same starts are one
  same-starts : (one other : CountedPoint) → Member one pairs.points → Member other pairs.points → starts one ≡ starts other → one ≡ other
  same-starts one other m n e = told-apart pairs.dimensions pairs.points sound.long sound.distinct one other m n (agree one other m n e)

  apart-labels : (one other : CountedPoint) → Member one pairs.points → Member other pairs.points → same_counted one other ≡ false → same_labels (starts one) (starts other) ≡ false
  apart-labels one other m n apart = by (same_labels (starts one) (starts other)) refl where
    by : (same : Bool) → same_labels (starts one) (starts other) ≡ same → same ≡ false
    by true e = absurd (false≢true (sym apart ∙ (counted-decides one other).1 (same-starts one other m n ((labels-decide (starts one) (starts other)).0 e))))
    by false e = refl

  apart-all : (point : CountedPoint) (points : List CountedPoint) → Member point pairs.points → ((p : CountedPoint) → Member p points → Member p pairs.points)
      → AllByRecursion (λ (p : CountedPoint). same_counted point p ≡ false) points → AllByRecursion (λ (two : Labels). same_labels (starts point) two ≡ false) (map starts points)
  apart-all point [] m within h = tt
  apart-all point (p ∷ points) m within h = (apart-labels point p m (within p (inl refl)) h.0, apart-all point points m (λ q n. within q (inr n)) h.1)

  different-starts : (points : List CountedPoint) → ((p : CountedPoint) → Member p points → Member p pairs.points) → IsDistinct same_counted points → IsDistinct same_labels (map starts points)
  unfolding IsDistinct
  different-starts [] within h = tt
  different-starts (p ∷ points) within h =
      (apart-all p points (within p (inl refl)) (λ q n. within q (inr n)) h.0, different-starts points (λ q n. within q (inr n)) h.1)

  module _ (s : ℕ) (red : List Bool) (moves : List Move) (run : IsRedRun graph s red moves) where
    abbrev held : List Labels
    held = among pairs (marked_from 0 red) ++ brought pairs red moves

    abbrev computed : List CountedPoint
    computed = points_computed (one_group pairs) moves

    is-point : (p : CountedPoint) → Member p computed → Member p pairs.points
    is-point p m = (left-member (λ (point : CountedPoint). stands_in (computed_vertices moves) point.vertex) pairs.points p m).0

    computed-one : (p : CountedPoint) → Member p computed → Member p.vertex (computed_vertices moves)
    computed-one p m = standing-member (computed_vertices moves) p.vertex (left-member (λ (point : CountedPoint). stands_in (computed_vertices moves) point.vertex) pairs.points p m).1

    red-held : AreRedHeld graph s pairs sound held red
    red-held x y l m on also ordered =
        Member-append_left (l.label x, m.label y) (among pairs (marked_from 0 red)) (brought pairs red moves)
        (among-held pairs x y l m (marked_from 0 red) ordered.first ordered.second ordered.lower (red-member red x on) (red-member red y also))

    each-held : AllByRecursion (λ (point : CountedPoint). Contains held (starts point)) computed
    each-held =
        All-from (λ (point : CountedPoint). Contains held (starts point)) computed
        (λ point m. Contains-member (starts point) held
        (starts-held graph s pairs sound held red moves run red-held
        (λ two n. Member-append_right two (among pairs (marked_from 0 red)) (brought pairs red moves) n)
        point (Contains-member point pairs.points (is-point point m)) (computed-one point m)))

    pub points-few : length computed ≤ length held
    points-few =
        let fewer : length (map starts computed) ≤ length held =
        length-le_from_is_member labels-equiv (map starts computed) held
        (different-starts computed is-point (distinct-left same_counted (λ (point : CountedPoint). stands_in (computed_vertices moves) point.vertex) pairs.points (points-distinct pairs.points sound.distinct)))
        (λ two e. (is_member-Decides labels-decide held two).1
        (all-contained (Contains held) (map starts computed) two (All-map (Contains held) starts computed each-held) ((is_member-Decides labels-decide (map starts computed) two).0 e))) in
        omega (arith, fewer, length-map computed starts)

pub points-take-meetings : PointsTakeMeetings
points-take-meetings graph s pairs red moves sound run =
    let less : s ≤ (s - 1) + 1 = omega arith in
    let own : length (marked_from 0 red) ≡ mark_count red = length-marked_from 0 red in
    let first : 2 * length (among pairs (marked_from 0 red)) + labels_of_two pairs * mark_count red ≤ labels_of_two pairs * (mark_count red * mark_count red) =
    subst (λ (c : ℕ). 2 * length (among pairs (marked_from 0 red)) + labels_of_two pairs * c ≤ labels_of_two pairs * (c * c)) own (among-few pairs (marked_from 0 red)) in
    let later : length (brought pairs red moves) ≤ labels_of_two pairs * (s - 1) * events pairs moves = brought-few pairs (s - 1) graph s less red moves run in
    omega (arith, points-few graph pairs sound s red moves run, length-append (among pairs (marked_from 0 red)) (brought pairs red moves), first, later)
