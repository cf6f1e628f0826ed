use Rattle.std.proofs.Common.{◌≡◌, ◌≤◌, ◌-◌, ◌++◌, length, replicate, pos}
use Rattle.affine_form.proofs.differences.widened.Given as goal

abbrev pub invariant-loop-place : goal.invariant-loop-place
invariant-loop-place l = record {
  so_far : l.coef.items ≡ l.form.coefficients ++ replicate (l._place - length l.form.coefficients) (pos 0);
  past : length l.form.coefficients ≤ l._place;
}
