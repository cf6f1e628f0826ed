-- The first boundaries have their values, and nothing was wide.
use Rattle.std.proofs.Common.{◌≡◌, ℕ, ◌≤◌, map}
use Rattle.iolb_model.specs.Bound.{AreMet}
use Rattle.iolb_model.specs.Tower.{capacity_up_to}
use Rattle.iolb_check.specs.Bounds.{HasWideBranch, bound_of}
use Rattle.memory_levels.specs.Climbs.{boundaries}
use Rattle.memory_levels.specs.Values.{value_at_level}
use Rattle.memory_levels.proofs.level_values.values_at_levels.Given as goal

abbrev pub invariant-loop-capacity : goal.invariant-loop-capacity
invariant-loop-capacity l = record {
  held : l.held ≡ capacity_up_to l.capacities l.capacity-index;
  values : l.values.items ≡ map (value_at_level (bound_of l.bound) l.sizes l.capacities) (boundaries l.capacity-index);
  narrow : (boundary : ℕ) → 1 ≤ boundary → boundary ≤ l.capacity-index → HasWideBranch l.sizes (capacity_up_to l.capacities boundary) l.bound.branches → ⊥;
  met : 1 ≤ l.capacity-index → AreMet l.bound.assumed.rows l.sizes;
}
