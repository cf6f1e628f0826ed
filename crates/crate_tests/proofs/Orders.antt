-- The order opposite to that of the program holds each instance once.
use Rattle.std.proofs.Common.{◌≡◌, sym, ◌∙◌, ap, inl, inr, ℕ, zero, suc, ◌+◌, ◌<◌, ◌≤◌, true, false, List, [], ◌∷◌, add-one, arith}
use Rattle.std.specs.Prelude.{◌⊎◌, nat_eq}
use Rattle.std.specs.List.{AllByRecursion, IsDistinct}
use Rattle.std.proofs.lemmas.Bool.{cases_eq, ne_eqb, eq-eqb, or_left, or_right}
use Rattle.iolb_model.specs.Graph.{ComputationGraph}
use Rattle.iolb_model.specs.Game.{stands_in}
use Rattle.pebble_replay.specs.Order.{HoldsEachOnce}

-- the numbers below one, falling
abbrev pub falling : ℕ → List ℕ
falling zero = []
falling (suc n) = n ∷ falling n

falling-below : (n m : ℕ) → n ≤ m → AllByRecursion (λ v. v < m) (falling n)
falling-below zero m h = tt
falling-below (suc n) m h = (omega (arith, h), falling-below n m (omega (arith, h)))

falling-apart : (k n : ℕ) → n ≤ k → AllByRecursion (λ (y : ℕ). nat_eq k y ≡ false) (falling n)
falling-apart k zero h = tt
falling-apart k (suc n) h = (ne_eqb k n (λ e. omega (arith, e, h)), falling-apart k n (omega (arith, h)))

falling-distinct : (n : ℕ) → IsDistinct nat_eq (falling n)
unfolding IsDistinct
falling-distinct zero = tt
falling-distinct (suc n) = (falling-apart n n (omega arith), falling-distinct n)

falling-each : (n v : ℕ) → v < n → stands_in (falling n) v ≡ true
falling-each zero v h = absurd (omega (arith, h))
falling-each (suc n) v h = by (cases_eq v n) (λ (less : v < n). falling-each n v less) where
  by : (v ≡ n) ⊎ (v ≡ n → ⊥) → (v < n → stands_in (falling n) v ≡ true) → stands_in (falling (suc n)) v ≡ true
  by (inl e) rest = or_left (nat_eq v n) (stands_in (falling n) v) (eq-eqb v n e)
  by (inr apart) rest = or_right (nat_eq v n) (stands_in (falling n) v) (rest (omega (arith, h, apart)))

pub falling-holds : (graph : ComputationGraph) → HoldsEachOnce graph (falling graph.instances)
falling-holds graph = record {
  there = falling-below graph.instances graph.instances (omega arith);
  once = falling-distinct graph.instances;
  each = λ v h. falling-each graph.instances v h;
}

pub falling-more : (n : ℕ) (old new : List ℕ) → old ≡ falling n → new ≡ n ∷ old → new ≡ falling (n + 1)
falling-more n old new e f = f ∙ ap (λ (l : List ℕ). n ∷ l) e ∙ ap falling (sym (add-one n))
