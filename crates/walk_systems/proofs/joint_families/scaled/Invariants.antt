use Rattle.std.proofs.Common.{◌≡◌, length}
use Rattle.std.specs.List.{AllByRecursion}
use Rattle.affine_form.specs.Form.{IsSmall}
use Rattle.iolb_model.specs.declared.limits.TheConstants.{COEFFICIENT_SIZE}
use Rattle.walk_systems.proofs.joint_families.scaled.Given as goal

abbrev pub invariant-loop-number : goal.invariant-loop-number
invariant-loop-number l = record {
  many : length l.coef.items ≡ l.number-index;
  small : AllByRecursion (IsSmall COEFFICIENT_SIZE) l.coef.items;
}
