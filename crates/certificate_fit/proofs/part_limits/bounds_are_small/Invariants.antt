use Rattle.std.proofs.Common.{drop}
use Rattle.std.specs.Prelude.{◌↔◌}
use Rattle.std.specs.List.{AllByRecursion}
use Rattle.iolb_model.specs.Form.{AffineForm}
use Rattle.affine_form.specs.Form.{IsSmallForm}
use Rattle.certificate_fit.proofs.part_limits.bounds_are_small.Given as goal
use Rattle.iolb_model.specs.declared.limits.TheConstants.{NUMBER_SIZE}

abbrev pub invariant-loop-lower : goal.invariant-loop-lower
invariant-loop-lower l = AllByRecursion (λ (bounds : AffineForm × AffineForm). IsSmallForm NUMBER_SIZE bounds.0 × IsSmallForm NUMBER_SIZE bounds.1) (drop l.lower-index l.bounds) ↔ AllByRecursion (λ (bounds : AffineForm × AffineForm). IsSmallForm NUMBER_SIZE bounds.0 × IsSmallForm NUMBER_SIZE bounds.1) l.bounds
