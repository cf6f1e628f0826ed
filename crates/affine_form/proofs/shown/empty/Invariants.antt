use Rattle.std.proofs.Common.{◌≡◌, ℕ, ◌<◌, pos}
use Rattle.affine_form.specs.Combination.{coefficient_of}
use Rattle.affine_form.specs.Shown.{row_sum}
use Rattle.affine_form.proofs.shown.empty.Given as goal

abbrev pub invariant-loop-variable : goal.invariant-loop-variable
invariant-loop-variable l =
    (v : ℕ) → v < l.variable → coefficient_of v (row_sum l.system l.shown) ≡ pos 0
