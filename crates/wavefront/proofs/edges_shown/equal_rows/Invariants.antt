use Rattle.std.proofs.Common.{◌≡◌, ◌++◌, drop}
use Rattle.affine_form.specs.Rows.{equality_rows, put_in}
use Rattle.wavefront.proofs.edges_shown.equal_rows.Given as goal

abbrev pub invariant-loop-i : goal.invariant-loop-i
invariant-loop-i l = l.rows.items ++ equality_rows l.vars (put_in l.point (drop l.i l.forms)) (drop l.i l.others) ≡ equality_rows l.vars (put_in l.point l.forms) l.others
