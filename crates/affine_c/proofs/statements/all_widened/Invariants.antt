use Rattle.std.proofs.Common.{◌≡◌, ◌≤◌, ◌++◌, drop, map}
use Rattle.std.specs.List.{AllByRecursion}
use Rattle.affine_form.specs.Form.{variables}
use Rattle.affine_form.specs.Rows.{widened}
use Rattle.affine_c.proofs.statements.all_widened.Given as goal

abbrev pub invariant-loop-form : goal.invariant-loop-form
invariant-loop-form l = record {
  room : AllByRecursion (λ form. variables form ≤ l.vars) (drop l.form-index l.forms);
  forms : l.wide.items ++ map (widened l.vars) (drop l.form-index l.forms) ≡ map (widened l.vars) l.forms;
}
