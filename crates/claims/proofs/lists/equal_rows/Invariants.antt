use Rattle.std.proofs.Common.{◌≡◌, ◌++◌, drop}
use Rattle.affine_form.specs.Rows.{equality_rows}
use Rattle.claims.proofs.lists.equal_rows.Given as goal

abbrev pub invariant-loop-i : goal.invariant-loop-i
invariant-loop-i l = l.rows.items ++ equality_rows l.vars (drop l.i l.one) (drop l.i l.other) ≡ equality_rows l.vars l.one l.other
