use Rattle.std.proofs.Common.{◌≡◌, take, pos}
use Rattle.std.specs.List.{AllByRecursion}
use Rattle.affine_form.specs.Form.{IsSmall}
use Rattle.affine_form.specs.Rows.{difference}
use Rattle.affine_form.proofs.differences.difference.Given as goal
use Rattle.iolb_model.specs.declared.limits.TheConstants.{COEFFICIENT_SIZE}

abbrev pub invariant-loop-place : goal.invariant-loop-place
invariant-loop-place l = record {
  so_far : l.coef.items ≡ take l.place (difference l.vars l.left l.right (pos 0)).coefficients;
  small : AllByRecursion (IsSmall COEFFICIENT_SIZE) l.coef.items;
}
