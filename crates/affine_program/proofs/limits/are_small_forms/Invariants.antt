use Rattle.std.proofs.Common.{take}
use Rattle.std.specs.List.{AllByRecursion}
use Rattle.affine_form.specs.Form.{IsSmallForm}
use Rattle.affine_program.proofs.limits.are_small_forms.Given as goal
use Rattle.iolb_model.specs.declared.limits.TheConstants.{NUMBER_SIZE}

abbrev pub invariant-loop-form : goal.invariant-loop-form
invariant-loop-form l = AllByRecursion (IsSmallForm NUMBER_SIZE) (take l.form-index l.forms)
