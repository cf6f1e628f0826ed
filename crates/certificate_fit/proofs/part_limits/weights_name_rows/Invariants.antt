use Rattle.std.proofs.Common.{ℕ, ◌<◌, drop}
use Rattle.std.specs.Prelude.{◌↔◌}
use Rattle.std.specs.List.{AllByRecursion}
use Rattle.certificate_fit.proofs.part_limits.weights_name_rows.Given as goal

abbrev pub invariant-loop-row : goal.invariant-loop-row
invariant-loop-row l = AllByRecursion (λ (weight : ℕ × ℕ). weight.0 < 128) (drop l.row-index l.weights) ↔ AllByRecursion (λ (weight : ℕ × ℕ). weight.0 < 128) l.weights
