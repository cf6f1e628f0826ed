use Rattle.std.proofs.Common.{◌≡◌, take, map}
use Rattle.affine_form.specs.Rows.{widened}
use Rattle.claims.proofs.lists.all_widened.Given as goal

abbrev pub invariant-loop-form : goal.invariant-loop-form
invariant-loop-form l = l.wide.items ≡ map (widened l.vars) (take l.form-index l.forms)
