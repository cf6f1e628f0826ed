use Rattle.std.proofs.Common.{◌≡◌, ◌++◌, drop, map}
use Rattle.std.specs.List.{AllByRecursion}
use Rattle.affine_form.specs.Form.{IsSmall}
use Rattle.command_words.specs.Sizes.{named_of, value_for}
use Rattle.command_words.proofs.values.values_of.Given as goal
use Rattle.iolb_model.specs.declared.limits.TheConstants.{VALUE_SIZE}

abbrev pub invariant-loop-name : goal.invariant-loop-name
invariant-loop-name l = record {
  same : l.values.items ++ map (λ name. value_for name (map named_of l.sizes)) (drop l.name-index l.names) ≡ map (λ name. value_for name (map named_of l.sizes)) l.names;
  small : AllByRecursion (IsSmall VALUE_SIZE) l.values.items;
}
