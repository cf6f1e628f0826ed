-- The order of the program holds each instance once.
use Rattle.std.proofs.Common.{◌≡◌, sym, ◌∙◌, ap, ℕ, zero, suc, ◌+◌, ◌<◌, ◌≤◌, List, [], ◌∷◌, ◌++◌, add-one, arith}
use Rattle.std.specs.List.{AllByRecursion, range_with_len}
use Rattle.base_laws.proofs.Ranges.{range-distinct, range-push}
use Rattle.iolb_model.specs.Graph.{ComputationGraph}
use Rattle.pebble_game.proofs.Marks.{member-stands}
use Rattle.pebble_replay.specs.Order.{HoldsEachOnce}
use Rattle.pebble_replay.proofs.Victim.{Member-vertices}

range-below : (a n m : ℕ) → a + n ≤ m → AllByRecursion (λ v. v < m) (range_with_len a n)
range-below a zero m h = tt
range-below a (suc n) m h = (omega (arith, h), range-below (a + 1) n m (omega (arith, h)))

pub range-holds : (graph : ComputationGraph) → HoldsEachOnce graph (range_with_len 0 graph.instances)
range-holds graph = record {
  there = range-below 0 graph.instances graph.instances (omega arith);
  once = range-distinct 0 graph.instances;
  each = λ v h. member-stands (range_with_len 0 graph.instances) v (Member-vertices graph.instances v h);
}

-- one number more
pub range-more : (n : ℕ) (old new : List ℕ) → old ≡ range_with_len 0 n → new ≡ old ++ n ∷ [] → new ≡ range_with_len 0 (n + 1)
range-more n old new e f =
    f ∙ ap (λ (l : List ℕ). l ++ n ∷ []) e ∙ ap (λ (k : ℕ). range_with_len 0 n ++ k ∷ []) (omega arith) ∙ range-push 0 n ∙ ap (range_with_len 0) (sym (add-one n))
