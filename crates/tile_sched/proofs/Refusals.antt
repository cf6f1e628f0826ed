-- A schedule is played in one way or refused in one.
use Rattle.std.proofs.Common.{◌≡◌, refl, sym, ◌∙◌, ap, ℕ, zero, suc, List, [], ◌∷◌}
use Rattle.std.specs.Prelude.{ℤ, Option, Some, None}
use Rattle.std.proofs.lemmas.List.{length-map}
use Rattle.iolb_model.specs.Bound.{AreMet}
use Rattle.iolb_model.specs.Execution.{execution}
use Rattle.iolb_model.specs.Form.{AffineForm}
use Rattle.iolb_model.specs.Graph.{computation_graph}
use Rattle.iolb_model.specs.Program.{AffineProgram}
use Rattle.affine_program.specs.Assumptions.{IsFirstUnmet}
use Rattle.pebble_game.specs.Graphs.{ComputationGraphsAreWellFormed}
use Rattle.pebble_replay.specs.Complete.{PlayedIsComplete}
use Rattle.pebble_replay.specs.Order.{HoldsEachOnce, replay_fault}
use Rattle.pebble_replay.specs.declared.fault.ReplayFault.{ReplayFault}
use Rattle.pebble_replay.specs.declared.fault.ReplayFault.TheVariants.{OutOfOrder as ComesLate, TooSmall as NeedsMore}
use Rattle.tile_sched.specs.OneSchedule.{OrdersAreOne}
use Rattle.tile_sched.specs.Order.{said, said_of}
use Rattle.tile_sched.specs.declared.schedule.Key.{Key}
use Rattle.tile_sched.proofs.Once.{holds_each_once}
use Rattle.tile_sched.specs.declared.unplayed.Unplayed.{Unplayed}
use Rattle.tile_sched.specs.declared.unplayed.Unplayed.TheVariants.{Assumption, TooMany, OutOfOrder, TooSmall}
use Rattle.tile_sched.specs.ReplayLaws.{PlayedOrdersAreOne, UnplayedAreOne, PlayedOrRefused, PlaysAreComplete}
use Rattle.tile_sched.specs.Plays.{CanBePlayed, IsKept, IsOrdered, IsUnplayed}

-- assumptions that are met have none that isn't
pub met_first : (rows : List AffineForm) (sizes : List ℤ) (n : ℕ) → AreMet rows sizes → IsFirstUnmet rows sizes n → ⊥
met_first [] sizes n met unmet = absurd unmet
met_first (row ∷ rows) sizes zero met unmet = unmet met.0
met_first (row ∷ rows) sizes (suc n) met unmet = met_first rows sizes n met.1 unmet.1

pub first_one : (rows : List AffineForm) (sizes : List ℤ) (n m : ℕ) → IsFirstUnmet rows sizes n → IsFirstUnmet rows sizes m → n ≡ m
first_one [] sizes n m unmet other = absurd unmet
first_one (row ∷ rows) sizes zero zero unmet other = refl
first_one (row ∷ rows) sizes zero (suc m) unmet other = absurd (unmet other.0)
first_one (row ∷ rows) sizes (suc n) zero unmet other = absurd (other unmet.0)
first_one (row ∷ rows) sizes (suc n) (suc m) unmet other = ap suc (first_one rows sizes n m unmet.1 other.1)

pub same_some : {A : Type 0} (a b : A) → Some a ≡ Some b → a ≡ b
same_some a b e = cc

pub none_some : {A : Type 0} (o : Option A) (a : A) → o ≡ None → o ≡ Some a → ⊥
none_some o a e f = cc

module _ (sorted : OrdersAreOne) (program : AffineProgram) (schedule : List (List Key)) (sizes : List ℤ) (s : ℕ) where
  order_one : (one other : List ℕ) → IsOrdered program schedule sizes one → IsOrdered program schedule sizes other → one ≡ other
  order_one one other p q = sorted (said program sizes schedule) one other p.order_is q.order_is

  kept_one : (f g : ReplayFault) → IsKept program schedule sizes s f → IsKept program schedule sizes s g → f ≡ g
  kept_one f g (one, p, is) (other, q, does) =
      same_some f g (sym is ∙ ap (λ (order : List ℕ). replay_fault (computation_graph program sizes) s order) (order_one one other p q) ∙ does)

  not_kept : (order : List ℕ) (f : ReplayFault) → CanBePlayed program schedule sizes s order → IsKept program schedule sizes s f → ⊥
  not_kept order f can (other, q, is) =
      none_some (replay_fault (computation_graph program sizes) s order) f can.free
      (ap (λ (l : List ℕ). replay_fault (computation_graph program sizes) s l) (order_one order other can.ordered q) ∙ is)

  refusal_one : (one other : Unplayed) → IsUnplayed program schedule sizes s one → IsUnplayed program schedule sizes s other → one ≡ other
  refusal_one (Assumption n) (Assumption m) p q = ap Assumption (first_one program.assumptions sizes n m p q)
  refusal_one (Assumption n) TooMany p q = absurd (met_first program.assumptions sizes n q.0 p)
  refusal_one (Assumption n) (OutOfOrder v u) p (order, q, is) = absurd (met_first program.assumptions sizes n q.met p)
  refusal_one (Assumption n) (TooSmall v k) p (order, q, is) = absurd (met_first program.assumptions sizes n q.met p)
  refusal_one TooMany (Assumption n) p q = absurd (met_first program.assumptions sizes n p.0 q)
  refusal_one TooMany TooMany p q = refl
  refusal_one TooMany (OutOfOrder v u) p (order, q, is) = absurd (p.1 q.reach)
  refusal_one TooMany (TooSmall v k) p (order, q, is) = absurd (p.1 q.reach)
  refusal_one (OutOfOrder v u) (Assumption n) (order, p, is) q = absurd (met_first program.assumptions sizes n p.met q)
  refusal_one (OutOfOrder v u) TooMany (order, p, is) q = absurd (q.1 p.reach)
  refusal_one (OutOfOrder v u) (OutOfOrder w x) p q = let same : ComesLate v u ≡ ComesLate w x = kept_one (ComesLate v u) (ComesLate w x) p q in cc
  refusal_one (OutOfOrder v u) (TooSmall w k) p q = let same : ComesLate v u ≡ NeedsMore w k = kept_one (ComesLate v u) (NeedsMore w k) p q in absurd cc
  refusal_one (TooSmall v k) (Assumption n) (order, p, is) q = absurd (met_first program.assumptions sizes n p.met q)
  refusal_one (TooSmall v k) TooMany (order, p, is) q = absurd (q.1 p.reach)
  refusal_one (TooSmall v k) (OutOfOrder w x) p q = let same : NeedsMore v k ≡ ComesLate w x = kept_one (NeedsMore v k) (ComesLate w x) p q in absurd cc
  refusal_one (TooSmall v k) (TooSmall w j) p q = let same : NeedsMore v k ≡ NeedsMore w j = kept_one (NeedsMore v k) (NeedsMore w j) p q in cc

  never_both : (order : List ℕ) (unplayed : Unplayed) → CanBePlayed program schedule sizes s order → IsUnplayed program schedule sizes s unplayed → ⊥
  never_both order (Assumption n) can p = met_first program.assumptions sizes n can.ordered.met p
  never_both order TooMany can p = p.1 can.ordered.reach
  never_both order (OutOfOrder v u) can p = not_kept order (ComesLate v u) can p
  never_both order (TooSmall v k) can p = not_kept order (NeedsMore v k) can p

pub orders_one : OrdersAreOne → PlayedOrdersAreOne
orders_one sorted program schedule sizes s one other p q = order_one sorted program schedule sizes s one other p.ordered q.ordered

pub refusals_one : OrdersAreOne → UnplayedAreOne
refusals_one sorted = refusal_one sorted

pub apart : OrdersAreOne → PlayedOrRefused
apart sorted = never_both sorted

-- the order of a schedule holds each instance once
holds : (program : AffineProgram) (schedule : List (List Key)) (sizes : List ℤ) (order : List ℕ) → IsOrdered program schedule sizes order → HoldsEachOnce (computation_graph program sizes) order
holds program schedule sizes order ordered =
    holds_each_once (computation_graph program sizes) _ order (length-map (execution program sizes) (said_of schedule sizes)) ordered.order_is.each

pub complete : ComputationGraphsAreWellFormed → PlayedIsComplete → PlaysAreComplete
complete formed plays program schedule sizes s order can =
    plays (computation_graph program sizes) order s (formed program sizes) (holds program schedule sizes order can.ordered) can.free
