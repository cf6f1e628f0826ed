use Rattle.std.proofs.Common.{◌≡◌, ℕ, ◌+◌, ◌<◌}
use Rattle.std.proofs.Math.IntN.{pos, ◌*ℤ◌}
use Rattle.affine_form.specs.Combination.{coefficient_of}
use Rattle.affine_form.specs.Matrix.{entry}
use Rattle.reuse_paths.proofs.family_shown.is_scaled_row.Given as goal

abbrev pub invariant-loop-column : goal.invariant-loop-column
invariant-loop-column l = (k : ℕ) → k < l.column → coefficient_of (l.params + k) l.form ≡ pos l.scale *ℤ entry l.matrix l.row k
