-- The uses in an order, put together from its end.
use Rattle.std.proofs.Common.{◌≡◌, refl, sym, ◌∙◌, ap, inl, inr, ℕ, zero, suc, ◌<◌, ◌≤◌, Bool, true, false, cond, List, [], ◌∷◌, length, drop, set, get_or, arith}
use Rattle.std.specs.Prelude.{◌⊎◌, ◌||◌, nat_eq, slice_index_or}
use Rattle.std.specs.List.{AllByRecursion, IsDistinct}
use Rattle.std.proofs.lemmas.Bool.{cases_eq, eq-eqb, ne_eqb, or_left}
use Rattle.std.proofs.lemmas.Map.Keys.{IsDistinct-head, IsDistinct-tail}
use Rattle.std.proofs.lemmas.List.{length-set, get_or-set_same, get_or-set_other}
use Rattle.iolb_model.specs.Graph.{ComputationGraph}
use Rattle.iolb_model.specs.Game.{stands_in}
use Rattle.std.proofs.lemmas.Map.Steps.{length-le_from_distinct_below}
use Rattle.execution_laws.proofs.Ordered.{All-from, All-member}
use Rattle.pebble_game.proofs.Marks.{member-stands, standing-member}
use Rattle.pebble_replay.specs.Order.{HoldsEachOnce}
use Rattle.pebble_replay.proofs.Marks.{apart-stands}
use Rattle.pebble_replay.specs.Uses.{AreUses}

-- a use was put before those of some vertices, and the rest of them are left
pub record ArePushed (next : ℕ) (us : List ℕ) (old new : List (List ℕ)) (left : List ℕ) : Type 0 where
  pub lists : length new ≡ length old
  pub each : (w : ℕ) → slice_index_or new w []
      ≡ cond (stands_in left w) (slice_index_or old w []) (cond (stands_in us w) (next ∷ slice_index_or old w []) (slice_index_or old w []))
  pub among : AllByRecursion (λ u. stands_in us u ≡ true) left
  pub there : AllByRecursion (λ u. u < length old) left
  pub once : IsDistinct nat_eq left

pub pushed-first : (next : ℕ) (us : List ℕ) (old : List (List ℕ)) → AllByRecursion (λ u. u < length old) us → IsDistinct nat_eq us → ArePushed next us old old us
pushed-first next us old there once = record {
  lists = refl;
  each = λ w. by (stands_in us w) (slice_index_or old w []);
  among = All-from (λ u. stands_in us u ≡ true) us (λ u m. member-stands us u m);
  there = there;
  once = once;
} where
  by : (b : Bool) (l : List ℕ) → l ≡ cond b l (cond b (next ∷ l) l)
  by true l = refl
  by false l = refl

pub pushed-step : (next : ℕ) (us : List ℕ) (old mid : List (List ℕ)) (u : ℕ) (left : List ℕ) → ArePushed next us old mid (u ∷ left)
    → ArePushed next us old (set mid u (next ∷ slice_index_or mid u [])) left
pushed-step next us old mid u left h = record {
  lists = length-set mid u (next ∷ slice_index_or mid u []) ∙ h.lists;
  each = λ w. by w (cases_eq w u);
  among = h.among.1;
  there = h.there.1;
  once = IsDistinct-tail nat_eq u left h.once;
} where
  by : (w : ℕ) → (w ≡ u) ⊎ (w ≡ u → ⊥) → slice_index_or (set mid u (next ∷ slice_index_or mid u [])) w []
      ≡ cond (stands_in left w) (slice_index_or old w []) (cond (stands_in us w) (next ∷ slice_index_or old w []) (slice_index_or old w []))
  by w (inl e) =
      let now : slice_index_or mid u [] ≡ slice_index_or old u [] =
      h.each u ∙ ap (λ (b : Bool). cond b (slice_index_or old u []) (cond (stands_in us u) (next ∷ slice_index_or old u []) (slice_index_or old u []))) (or_left (nat_eq u u) (stands_in left u) (eq-eqb u u refl)) in
      ap (λ (x : ℕ). slice_index_or (set mid u (next ∷ slice_index_or mid u [])) x []) e
      ∙ get_or-set_same mid u (next ∷ slice_index_or mid u []) [] (omega (arith, h.lists, h.there.0))
      ∙ ap (λ (l : List ℕ). next ∷ l) now
      ∙ sym (ap (λ (b : Bool). cond b (slice_index_or old u []) (cond (stands_in us u) (next ∷ slice_index_or old u []) (slice_index_or old u []))) (apart-stands u left (IsDistinct-head nat_eq u left h.once))
      ∙ ap (λ (b : Bool). cond b (next ∷ slice_index_or old u []) (slice_index_or old u [])) h.among.0)
      ∙ sym (ap (λ (x : ℕ). cond (stands_in left x) (slice_index_or old x []) (cond (stands_in us x) (next ∷ slice_index_or old x []) (slice_index_or old x []))) e)
  by w (inr apart) =
      get_or-set_other mid u w (next ∷ slice_index_or mid u []) [] apart ∙ h.each w
      ∙ ap (λ (b : Bool). cond (b || stands_in left w) (slice_index_or old w []) (cond (stands_in us w) (next ∷ slice_index_or old w []) (slice_index_or old w []))) (ne_eqb w u apart)

-- an order that holds each instance once is no longer than the instances are
pub order-short : (graph : ComputationGraph) (order : List ℕ) → HoldsEachOnce graph order → length order ≤ graph.instances
order-short graph order holds =
    length-le_from_distinct_below order graph.instances holds.once (λ q m. All-member (λ v. v < graph.instances) order q holds.there (standing-member order q m))

-- the uses from a place of an order on
pub record AreCollected (graph : ComputationGraph) (order : List ℕ) (lists : List (List ℕ)) (place : ℕ) : Type 0 where
  pub within : place ≤ length order
  pub uses : AreUses graph (drop place order) lists

all-at : (P : ℕ → Type 0) (xs : List ℕ) (k : ℕ) → AllByRecursion P xs → k < length xs → P (get_or xs k 0)
all-at P [] k h below = absurd (omega (arith, below))
all-at P (x ∷ xs) zero h below = h.0
all-at P (x ∷ xs) (suc k) h below = all-at P xs k h.1 (omega (arith, below))

-- what stands at a place of such an order is an instance
pub order-at : (graph : ComputationGraph) (order : List ℕ) (k : ℕ) → HoldsEachOnce graph order → k < length order → get_or order k 0 < graph.instances
order-at graph order k holds below = all-at (λ v. v < graph.instances) order k holds.there below
