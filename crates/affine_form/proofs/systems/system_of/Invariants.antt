use Rattle.std.proofs.Common.{◌≡◌, take}
use Rattle.affine_form.proofs.systems.system_of.Given as goal

abbrev pub invariant-loop-row : goal.invariant-loop-row
invariant-loop-row l = l.system ≡ record { vars = l.vars; rows = take l.row-index l.rows }
