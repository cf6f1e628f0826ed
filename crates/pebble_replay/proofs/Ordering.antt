-- Whether each source comes before its reader, found by marks of the instances that came.
use Rattle.std.proofs.Common.{◌≡◌, refl, sym, ◌∙◌, ap, inl, inr, ℕ, ◌<◌, ◌≤◌, Bool, true, false, cond, not, List, [], ◌∷◌, length, set, find, Option, Some, None, arith}
use Rattle.std.specs.Prelude.{◌⊎◌, ◌&&◌, ◌||◌, nat_eq, nat_lt}
use Rattle.std.specs.List.{AllByRecursion, IsDistinct}
use Rattle.std.proofs.lemmas.Bool.{cases_eq, cases_lt, lt-ltb, le-ltb, ne_eqb, false_from_ne_true}
use Rattle.std.proofs.lemmas.Map.Keys.{IsDistinct-head, IsDistinct-tail}
use Rattle.std.proofs.lemmas.List.{length-set}
use Rattle.iolb_model.specs.Graph.{ComputationGraph}
use Rattle.iolb_model.specs.Game.{marked, predecessors_at, stands_in}
use Rattle.execution_laws.proofs.Members.{Member}
use Rattle.execution_laws.proofs.Ordered.{All-member}
use Rattle.pebble_game.specs.Graphs.{IsWellFormedGraph}
use Rattle.pebble_game.proofs.Marks.{standing-member, put-here}
use Rattle.pebble_replay.specs.declared.fault.ReplayFault.TheVariants.{OutOfOrder}
use Rattle.pebble_replay.specs.Order.{late_source, late_or, order_fault}
use Rattle.pebble_replay.proofs.Marks.{apart-stands, put-other}

-- of an order no fault was found yet, and the marked instances are those that don't come any more
pub record IsOrdering (graph : ComputationGraph) (order : List ℕ) (done : List Bool) (rest : List ℕ) : Type 0 where
  pub fault : order_fault graph order ≡ order_fault graph rest
  pub came : (u : ℕ) → u < graph.instances → marked done u ≡ not (stands_in rest u)
  pub wide : length done ≡ graph.instances
  pub there : AllByRecursion (λ v. v < graph.instances) rest
  pub once : IsDistinct nat_eq rest

find-same : (p q : ℕ → Bool) (us : List ℕ) → ((u : ℕ) → Member u us → p u ≡ q u) → find p us ≡ find q us
find-same p q [] h = refl
find-same p q (u ∷ us) h =
    ap (λ (b : Bool). cond b (Some u) (find p us)) (h u (inl refl)) ∙ ap (λ (o : Option ℕ). cond (q u) (Some u) o) (find-same p q us (λ w m. h w (inr m)))

twice : (b : Bool) → not (not b) ≡ b
twice true = refl
twice false = refl

-- the first predecessor that isn't marked is the first that comes later
pub missing-late : (graph : ComputationGraph) (order : List ℕ) (done : List Bool) (v : ℕ) (later : List ℕ) → IsWellFormedGraph graph → IsOrdering graph order done (v ∷ later)
    → find (λ u. nat_lt u graph.instances && not (marked done u)) (predecessors_at graph v) ≡ late_source graph later v
missing-late graph order done v later well h =
    find-same (λ u. nat_lt u graph.instances && not (marked done u)) (stands_in later) (predecessors_at graph v) (λ u m. by u m (cases_lt u graph.instances)) where
      by : (u : ℕ) → Member u (predecessors_at graph v) → (u < graph.instances) ⊎ (graph.instances ≤ u) → (nat_lt u graph.instances && not (marked done u)) ≡ stands_in later u
      by u m (inl less) =
          let before : u < v = All-member (λ (w : ℕ). w < graph.instances → w < v) (predecessors_at graph v) u (well.earlier v h.there.0) m less in
          ap (λ (b : Bool). b && not (marked done u)) (lt-ltb u graph.instances less) ∙ ap not (h.came u less) ∙ twice (stands_in (v ∷ later) u)
          ∙ ap (λ (b : Bool). b || stands_in later u) (ne_eqb u v (λ e. omega (arith, e, before)))
      by u m (inr more) =
          ap (λ (b : Bool). b && not (marked done u)) (le-ltb u graph.instances more)
          ∙ sym (false_from_ne_true (stands_in later u) (λ on. omega (arith, more, All-member (λ (w : ℕ). w < graph.instances) later u h.there.1 (standing-member later u on))))

-- a source that comes later is a fault
pub ordering-fault : (graph : ComputationGraph) (order : List ℕ) (done : List Bool) (v : ℕ) (later : List ℕ) (u : ℕ) → IsWellFormedGraph graph → IsOrdering graph order done (v ∷ later)
    → find (λ u. nat_lt u graph.instances && not (marked done u)) (predecessors_at graph v) ≡ Some u → order_fault graph order ≡ Some (OutOfOrder v u)
ordering-fault graph order done v later u well h e =
    h.fault ∙ ap (late_or (order_fault graph later) v) (sym (missing-late graph order done v later well h) ∙ e)

-- and otherwise the instance came
pub ordering-step : (graph : ComputationGraph) (order : List ℕ) (done : List Bool) (v : ℕ) (later : List ℕ) → IsWellFormedGraph graph → IsOrdering graph order done (v ∷ later)
    → find (λ u. nat_lt u graph.instances && not (marked done u)) (predecessors_at graph v) ≡ None → IsOrdering graph order (set done v true) later
ordering-step graph order done v later well h e = record {
  fault = h.fault ∙ ap (late_or (order_fault graph later) v) (sym (missing-late graph order done v later well h) ∙ e);
  came = λ u below. by u below (cases_eq u v);
  wide = length-set done v true ∙ h.wide;
  there = h.there.1;
  once = IsDistinct-tail nat_eq v later h.once;
} where
  by : (u : ℕ) → u < graph.instances → (u ≡ v) ⊎ (u ≡ v → ⊥) → marked (set done v true) u ≡ not (stands_in later u)
  by u below (inl f) =
      ap (marked (set done v true)) f ∙ put-here done v (omega (arith, h.wide, h.there.0))
      ∙ sym (ap not (ap (stands_in later) f ∙ apart-stands v later (IsDistinct-head nat_eq v later h.once)))
  by u below (inr apart) = put-other done v u apart ∙ h.came u below ∙ ap (λ (b : Bool). not (b || stands_in later u)) (ne_eqb u v apart)
