use Rattle.std.proofs.Common.{◌≡◌, ◌++◌, take}
use Rattle.affine_form.specs.Rows.{guard_rows}
use Rattle.affine_form.proofs.rows.push_guards.Given as goal

abbrev pub invariant-loop-guard : goal.invariant-loop-guard
invariant-loop-guard l = l.rows.items ≡ l.initial.rows.items ++ guard_rows l.vars (take l.guard-index l.guards) l.point
