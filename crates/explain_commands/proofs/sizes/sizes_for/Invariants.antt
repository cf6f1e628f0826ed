use Rattle.std.proofs.Common.{◌≡◌, length}
use Rattle.std.specs.List.{AllByRecursion}
use Rattle.affine_form.specs.Form.{IsSmall}
use Rattle.iolb_model.specs.declared.limits.TheConstants.{VALUE_SIZE}
use Rattle.explain_commands.proofs.sizes.sizes_for.Given as goal

abbrev pub invariant-loop-name : goal.invariant-loop-name
invariant-loop-name l = (length l.sizes.items ≡ l.name-index) × AllByRecursion (IsSmall VALUE_SIZE) l.sizes.items
