use Rattle.std.proofs.Common.{◌≡◌, take}
use Rattle.std.specs.List.{AllByRecursion}
use Rattle.affine_form.specs.Form.{IsSmall}
use Rattle.affine_form.specs.Substitution.{substitution}
use Rattle.affine_form.proofs.form.Form.substitute.Given as goal
use Rattle.iolb_model.specs.declared.limits.TheConstants.{COEFFICIENT_SIZE}

abbrev pub invariant-loop-variable : goal.invariant-loop-variable
invariant-loop-variable l = record {
  so_far : l.coef.items ≡ take l.variable (substitution l.self l.map).coefficients;
  small : AllByRecursion (IsSmall COEFFICIENT_SIZE) l.coef.items;
}
