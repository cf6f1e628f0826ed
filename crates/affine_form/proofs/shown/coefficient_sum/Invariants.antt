use Rattle.std.proofs.Common.{◌≡◌, ◌≤◌, ◌+◌, ◌*◌, ◌+ℤ◌, pos, drop}
use Rattle.std.specs.Prelude.{unsigned_abs}
use Rattle.affine_form.specs.Combination.{coefficient_of, combination, constant_form}
use Rattle.affine_form.specs.Shown.{row_sum, weighted_rows}
use Rattle.affine_form.proofs.shown.coefficient_sum.Given as goal
use Rattle.iolb_model.specs.declared.limits.TheConstants.{MULTIPLIER_SIZE, COEFFICIENT_SIZE}

abbrev pub invariant-loop-row : goal.invariant-loop-row
invariant-loop-row l = record {
  so_far : (l.sum +ℤ coefficient_of l.variable (combination (weighted_rows l.fn.system.rows (drop l.row-index l.row-items)) (constant_form l.fn.system.vars (pos l.fn.shown.rest))))
      ≡ coefficient_of l.variable (row_sum l.fn.system l.fn.shown);
  small : unsigned_abs l.sum ≤ 0 + l.row-index * (MULTIPLIER_SIZE * COEFFICIENT_SIZE);
}
