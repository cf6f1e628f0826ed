use Rattle.std.proofs.Common.{◌≡◌, ◌≤◌, ◌+◌, ◌*◌, ◌+ℤ◌, drop}
use Rattle.std.specs.Prelude.{unsigned_abs, zip}
use Rattle.affine_form.specs.Combination.{combination, constant_form}
use Rattle.affine_form.specs.Substitution.{substitution}
use Rattle.affine_form.proofs.substitution.composed_constant.Given as goal
use Rattle.iolb_model.specs.declared.limits.TheConstants.{NUMBER_SIZE}

abbrev pub invariant-loop-i : goal.invariant-loop-i
invariant-loop-i l = record {
  so_far : (l.sum +ℤ (combination (zip (drop l.i l.coef) (drop l.i l.map)) (constant_form 0 l.form.constant)).constant)
      ≡ (substitution l.form l.map).constant;
  small : unsigned_abs l.sum ≤ 0 + l.i * (NUMBER_SIZE * NUMBER_SIZE);
}
