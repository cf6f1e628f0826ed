use Rattle.std.proofs.Common.{take}
use Rattle.std.specs.List.{AllByRecursion}
use Rattle.affine_form.specs.Rows.{IsSmallOver}
use Rattle.asked_systems.proofs.fits.are_over.Given as goal

abbrev pub invariant-loop-form : goal.invariant-loop-form
invariant-loop-form l = AllByRecursion (IsSmallOver l.vars) (take l.form-index l.forms)
