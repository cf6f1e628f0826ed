use Rattle.std.proofs.Common.{◌≡◌, ◌≤◌, ◌^◌, ◌+◌, ◌*◌, ◌+ℤ◌, drop}
use Rattle.std.specs.Prelude.{unsigned_abs}
use Rattle.iolb_model.specs.Form.{dot, form_value}
use Rattle.affine_form.proofs.form.Form.value.Given as goal
use Rattle.iolb_model.specs.declared.limits.TheConstants.{COEFFICIENT_SIZE}

abbrev pub invariant-loop-i : goal.invariant-loop-i
invariant-loop-i l = record {
  so_far : (l.sum +ℤ dot (drop l.i l.self-inside.coef.items) (drop l.i l.point)) ≡ form_value l.fn.self l.point;
  small : unsigned_abs l.sum ≤ COEFFICIENT_SIZE + l.i * 2 ^ 102;
}
