use Rattle.std.proofs.Common.{◌≡◌, ◌≤◌, take}
use Rattle.std.specs.List.{AllByRecursion}
use Rattle.affine_form.specs.Form.{variables, IsSmallForm}
use Rattle.affine_form.specs.Rows.{put_in}
use Rattle.affine_form.proofs.rows.put_all.Given as goal
use Rattle.iolb_model.specs.declared.limits.TheConstants.{PUT_SIZE}

abbrev pub invariant-loop-form : goal.invariant-loop-form
invariant-loop-form l = record {
  so_far : l.all.items ≡ put_in l.point (take l.form-index l.forms);
  within : AllByRecursion (λ form. variables form ≤ l.vars) l.all.items;
  small : AllByRecursion (IsSmallForm PUT_SIZE) l.all.items;
}
