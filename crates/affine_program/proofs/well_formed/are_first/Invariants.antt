use Rattle.std.proofs.Common.{◌≡◌, map, take}
use Rattle.affine_form.specs.Rows.{widened}
use Rattle.affine_program.proofs.well_formed.are_first.Given as goal

abbrev pub invariant-loop-i : goal.invariant-loop-i
invariant-loop-i l = map (widened l.vars) (take l.i l.forms) ≡ take l.i l.others
