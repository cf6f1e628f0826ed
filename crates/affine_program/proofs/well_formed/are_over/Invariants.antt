use Rattle.std.proofs.Common.{take}
use Rattle.std.specs.List.{AllByRecursion}
use Rattle.iolb_model.specs.Program.{IsOver}
use Rattle.affine_program.proofs.well_formed.are_over.Given as goal

abbrev pub invariant-loop-form : goal.invariant-loop-form
invariant-loop-form l = AllByRecursion (IsOver l.variables) (take l.form-index l.forms)
