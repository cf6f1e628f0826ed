use Rattle.std.proofs.Common.{◌≡◌, ℕ, ◌<◌}
use Rattle.std.specs.Prelude.{◌≤ℤ◌, negsuc}
use Rattle.affine_form.specs.Shown.{row_at}
use Rattle.projective.proofs.assumed.taken.Given as goal

abbrev pub invariant-loop-number : goal.invariant-loop-number
invariant-loop-number l = (k : ℕ) → k < l.number → ¬ (((row_at l.rows k).coefficients ≡ l.coef) × ((row_at l.rows k).constant ≤ℤ negsuc 0))
