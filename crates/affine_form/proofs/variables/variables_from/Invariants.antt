use Rattle.std.proofs.Common.{◌≡◌, ◌+◌, ◌-◌, ◌≤◌, ◌++◌}
use Rattle.affine_form.specs.Rows.{variables_from}
use Rattle.affine_form.proofs.variables.variables_from.Given as goal

abbrev pub invariant-loop-place : goal.invariant-loop-place
invariant-loop-place l = record {
  so_far : l.forms.items ++ variables_from l.vars l.place ((l.first + l.count) - l.place) ≡ variables_from l.vars l.first l.count;
  from : l.first ≤ l.place;
}
