-- Red runs take loads of words and computations of credited vertices.
use Rattle.std.proofs.Common.{◌≡◌, refl, sym, ◌∙◌, ap, subst, ℕ, zero, suc, ◌+◌, ◌-◌, ◌*◌, ◌/◌, ◌<◌, ◌≤◌, Bool, true, false, cond, List, [], ◌∷◌, length, arith}
use Rattle.std.specs.Prelude.{◌&&◌, nat_eq, filter}
use Rattle.std.specs.Set.{is_member}
use Rattle.std.proofs.lemmas.Cmp.{nat_eq_equiv}
use Rattle.std.proofs.Math.Nat.{div-mul-le_self, mul_comm, zero-div}
use Rattle.std.proofs.lemmas.Bool.{eqb-true}
use Rattle.std.proofs.lemmas.List.Sums.{sum_by-cons, length-filter}
use Rattle.std.proofs.lemmas.Map.Made.{is_member-filter, length-le_from_is_member}
use Rattle.iolb_model.specs.declared.game.Move.{Move}
use Rattle.iolb_model.specs.declared.game.Move.TheVariants.{Load, Store, Compute, Drop, Erase}
use Rattle.iolb_model.specs.Game.{loads_of, loads_one_of, stands_in}
use Rattle.stretch_laws.specs.Laws.{DifferentComputationsAreFew, PointsTakeEvents, RunsAreLoaded, events, points_computed}
use Rattle.stretch_laws.specs.Reuse.{JointPartition, joint_words}
use Rattle.stretch_laws.specs.Runs.{computations_of, computed_vertices, is_event_of}
use Rattle.pebble_game.proofs.Marks.{distinct-filtered}

module _ (partition : JointPartition) where
  -- events are loads of words and computations of credited vertices
  events-are : (moves : List Move) → events partition moves ≡ loads_of (joint_words partition) moves + computations_of partition.credited moves
  events-are [] = refl
  events-are (Load v ∷ moves) =
      omega (
        arith,
        sum_by-cons (λ (move : Move). cond (is_event_of (joint_words partition) partition.credited move) 1 0) (Load v) moves,
        sum_by-cons (λ (move : Move). cond (loads_one_of (joint_words partition) move) 1 0) (Load v) moves,
        events-are moves,
      )
  events-are (Store v ∷ moves) = events-are moves
  events-are (Compute v ∷ moves) =
      omega (
        arith,
        sum_by-cons (λ (move : Move). cond (is_event_of (joint_words partition) partition.credited move) 1 0) (Compute v) moves,
        sum_by-cons (λ (w : ℕ). cond (stands_in partition.credited w) 1 0) v (computed_vertices moves),
        events-are moves,
      )
  events-are (Drop v ∷ moves) = events-are moves
  events-are (Erase v ∷ moves) = events-are moves

  module _ (t u : ℕ) (moves : List Move) (takes : (j : ℕ) → j * u < length (points_computed partition moves) → j * t ≤ events partition moves) where
    run-loads : (n : ℕ) → n ≤ length (points_computed partition moves) → t * ((n - 1) / u) ≤ loads_of (joint_words partition) moves + computations_of partition.credited moves
    run-loads zero few =
        let none : (0 - 1) / u ≡ 0 = zero-div u in
        subst (λ (k : ℕ). t * k ≤ loads_of (joint_words partition) moves + computations_of partition.credited moves) (sym none) (omega arith)
    run-loads (suc n) few =
        let j : ℕ = (suc n - 1) / u in
        let within : j * u ≤ suc n - 1 = div-mul-le_self (suc n - 1) u in
        let enough : j * t ≤ events partition moves = takes j (omega (arith, within, few)) in
        omega (arith, mul_comm t j, enough, events-are moves)

pub runs-loaded : PointsTakeEvents → RunsAreLoaded
runs-loaded take graph q num den s t u n partition red moves sound factor greatest run few =
    run-loads partition t u moves (λ j many. take graph q num den s t u partition red moves sound factor greatest run j many) n few

-- the computed members of a set are members of it
pub different-computations-are-few : DifferentComputationsAreFew
different-computations-are-few set moves distinct =
    let computed : List ℕ = filter (stands_in set) (computed_vertices moves) in
    let few : length computed ≤ length set = length-le_from_is_member nat_eq_equiv computed set (distinct-filtered (stands_in set) (computed_vertices moves) distinct)
    (λ v h. second (is_member nat_eq (computed_vertices moves) v) (stands_in set v)
    (sym (is_member-filter nat_eq_equiv (stands_in set) v (λ x e. ap (stands_in set) (eqb-true v x e)) (computed_vertices moves)) ∙ h)) in
    omega (arith, few, length-filter (stands_in set) (computed_vertices moves)) where
      second : (a b : Bool) → (a && b) ≡ true → b ≡ true
      second true b e = e
      second false b e = cc
