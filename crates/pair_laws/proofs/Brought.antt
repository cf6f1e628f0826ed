-- What the events of a run bring: at each, what the vertex that comes brings with those that are red beside it.
use Rattle.std.proofs.Common.{◌≡◌, refl, sym, subst, ℕ, ◌+◌, ◌*◌, ◌≤◌, Bool, true, false, cond, List, [], ◌∷◌, ◌++◌, length, arith, length-append, mul-le-mul_left, zero-add}
use Rattle.std.proofs.lemmas.List.Sums.{sum_by-cons}
use Rattle.execution_laws.proofs.Members.{Member}
use Rattle.iolb_model.specs.declared.game.Move.{Move}
use Rattle.iolb_model.specs.declared.game.Move.TheVariants.{Load, Store, Compute, Drop, Erase}
use Rattle.iolb_model.specs.Graph.{ComputationGraph}
use Rattle.iolb_model.specs.Game.{loads_one_of, mark_count, marked, stands_in}
use Rattle.pebble_game.proofs.Marks.{length-marked_from, marked-member, marked_from}
use Rattle.stretch_laws.specs.Runs.{IsRedRun, computed_vertices, red_after}
use Rattle.pair_laws.specs.Laws.{events}
use Rattle.pair_laws.specs.Pairs.{PairPartition, labels_of_two, pair_words}
use Rattle.pair_laws.proofs.TwoWords.{Labels, meetings, meetings-fewer}

-- a red vertex is one of those that are red
pub red-member : (red : List Bool) (v : ℕ) → marked red v ≡ true → Member v (marked_from 0 red)
red-member red v on = subst (λ (n : ℕ). Member n (marked_from 0 red)) (zero-add v) (marked-member 0 red v on)

module _ (pairs : PairPartition) where
  -- what a vertex brings that has come, where it is red
  abbrev pub arrivals : ℕ → List Bool → List Labels
  arrivals w red = cond (marked red w) (meetings pairs w (marked_from 0 red)) []

  unfoldable pub brought : List Bool → List Move → List Labels
  brought red [] = []
  brought red (Load w ∷ moves) = cond (stands_in (pair_words pairs) w) (arrivals w (red_after red (Load w))) [] ++ brought (red_after red (Load w)) moves
  brought red (Store w ∷ moves) = brought red moves
  brought red (Compute w ∷ moves) = cond (stands_in pairs.credited w) (arrivals w (red_after red (Compute w))) [] ++ brought (red_after red (Compute w)) moves
  brought red (Drop w ∷ moves) = brought (red_after red (Drop w)) moves
  brought red (Erase w ∷ moves) = brought red moves

  -- one event more, or none
  loaded-more : (w : ℕ) (moves : List Move) → events pairs (Load w ∷ moves) ≡ cond (stands_in (pair_words pairs) w) 1 0 + events pairs moves
  loaded-more w moves = omega (arith, sum_by-cons (λ (move : Move). cond (loads_one_of (pair_words pairs) move) 1 0) (Load w) moves)

  computed-more : (w : ℕ) (moves : List Move) → events pairs (Compute w ∷ moves) ≡ cond (stands_in pairs.credited w) 1 0 + events pairs moves
  computed-more w moves = omega (arith, sum_by-cons (λ (v : ℕ). cond (stands_in pairs.credited v) 1 0) w (computed_vertices moves))

  -- each with at most k others
  module _ (k : ℕ) where
    arrivals-few : (w : ℕ) (red : List Bool) → mark_count red ≤ k + 1 → length (arrivals w red) ≤ labels_of_two pairs * k
    arrivals-few w red few = by (marked red w) refl where
      by : (on : Bool) → marked red w ≡ on → length (cond on (meetings pairs w (marked_from 0 red)) []) ≤ labels_of_two pairs * k
      by true is =
          let long : length (marked_from 0 red) ≤ k + 1 = omega (arith, length-marked_from 0 red, few) in
          omega (arith, meetings-fewer pairs w (marked_from 0 red) (red-member red w is), mul-le-mul_left (labels_of_two pairs) long)
      by false is = omega arith

    event-few : (is : Bool) (w n : ℕ) (red : List Bool) → mark_count red ≤ k + 1 → n ≡ labels_of_two pairs * k → length (cond is (arrivals w red) []) ≤ n * cond is 1 0
    event-few true w n red few same = omega (arith, arrivals-few w red few, same)
    event-few false w n red few same = omega arith

    module _ (graph : ComputationGraph) (s : ℕ) (less : s ≤ k + 1) where
      red-few : (red : List Bool) (moves : List Move) → IsRedRun graph s red moves → mark_count red ≤ k + 1
      red-few red [] run = omega (arith, run, less)
      red-few red (move ∷ moves) run = omega (arith, run.0, less)

      brought-within : (n : ℕ) → n ≡ labels_of_two pairs * k → (red : List Bool) (moves : List Move) → IsRedRun graph s red moves → length (brought red moves) ≤ n * events pairs moves
      unfolding brought
      brought-within n same red [] run = omega arith
      brought-within n same red (Load w ∷ moves) run =
          subst (λ (e : ℕ). length (brought red (Load w ∷ moves)) ≤ n * e) (sym (loaded-more w moves))
          (omega (
            arith,
            length-append (cond (stands_in (pair_words pairs) w) (arrivals w (red_after red (Load w))) []) (brought (red_after red (Load w)) moves),
            event-few (stands_in (pair_words pairs) w) w n (red_after red (Load w)) (red-few (red_after red (Load w)) moves run.2) same,
            brought-within n same (red_after red (Load w)) moves run.2,
          ))
      brought-within n same red (Store w ∷ moves) run = brought-within n same red moves run.2
      brought-within n same red (Compute w ∷ moves) run =
          subst (λ (e : ℕ). length (brought red (Compute w ∷ moves)) ≤ n * e) (sym (computed-more w moves))
          (omega (
            arith,
            length-append (cond (stands_in pairs.credited w) (arrivals w (red_after red (Compute w))) []) (brought (red_after red (Compute w)) moves),
            event-few (stands_in pairs.credited w) w n (red_after red (Compute w)) (red-few (red_after red (Compute w)) moves run.2) same,
            brought-within n same (red_after red (Compute w)) moves run.2,
          ))
      brought-within n same red (Drop w ∷ moves) run = brought-within n same (red_after red (Drop w)) moves run.2
      brought-within n same red (Erase w ∷ moves) run = brought-within n same red moves run.2

      pub brought-few : (red : List Bool) (moves : List Move) → IsRedRun graph s red moves → length (brought red moves) ≤ labels_of_two pairs * k * events pairs moves
      brought-few red moves run = brought-within (labels_of_two pairs * k) refl red moves run
