use Rattle.std.proofs.Common.{take}
use Rattle.std.specs.List.{AllByRecursion}
use Rattle.affine_form.specs.Form.{IsSmallForm}
use Rattle.iolb_model.specs.Form.{AffineForm}
use Rattle.affine_program.proofs.limits.are_small_bounds.Given as goal
use Rattle.iolb_model.specs.declared.limits.TheConstants.{NUMBER_SIZE}

abbrev pub invariant-loop-pair : goal.invariant-loop-pair
invariant-loop-pair l = AllByRecursion (λ (bounds : AffineForm × AffineForm). IsSmallForm NUMBER_SIZE bounds.0 × IsSmallForm NUMBER_SIZE bounds.1) (take l.pair-index l.bounds)
