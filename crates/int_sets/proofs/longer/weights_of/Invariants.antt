use Rattle.std.proofs.Common.{ℕ, ◌<◌}
use Rattle.std.specs.List.{AllByRecursion}
use Rattle.affine_form.specs.Multipliers.{IsWeight, RowsRise}
use Rattle.int_sets.proofs.longer.weights_of.Given as goal

abbrev pub invariant-loop-row : goal.invariant-loop-row
invariant-loop-row l = record {
  small : AllByRecursion IsWeight l.weights.items;
  rising : RowsRise l.weights.items;
  below : AllByRecursion (λ (weight : ℕ × ℕ). weight.0 < l.row) l.weights.items;
}
