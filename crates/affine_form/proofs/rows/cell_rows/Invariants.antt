use Rattle.std.proofs.Common.{◌≡◌, ◌++◌, drop}
use Rattle.affine_form.specs.Rows.{equality_rows, put_in}
use Rattle.affine_form.proofs.rows.cell_rows.Given as goal

abbrev pub invariant-loop-i : goal.invariant-loop-i
invariant-loop-i l =
    l.rows.items ++ equality_rows l.vars (put_in l.at (drop l.i l.written)) (put_in l.reader (drop l.i l.read)) ≡ equality_rows l.vars (put_in l.at l.written) (put_in l.reader l.read)
