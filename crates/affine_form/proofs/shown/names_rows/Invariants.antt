use Rattle.std.proofs.Common.{take}
use Rattle.affine_form.specs.Shown.{NamesRows}
use Rattle.affine_form.proofs.shown.names_rows.Given as goal

abbrev pub invariant-loop-row : goal.invariant-loop-row
invariant-loop-row l = NamesRows l.fn.system.rows (take l.row-index l.row-items)
