use Rattle.std.proofs.Common.{◌≡◌, ◌<◌, drop, map}
use Rattle.std.specs.Prelude.{unsigned_abs}
use Rattle.std.specs.List.{AllByRecursion}
use Rattle.command_words.specs.declared.size.Size.{Size}
use Rattle.command_words.specs.Sizes.{named_of, value_for}
use Rattle.command_words.proofs.values.value_for.Given as goal
use Rattle.iolb_model.specs.declared.limits.TheConstants.{VALUE_SIZE}

abbrev pub invariant-loop-size : goal.invariant-loop-size
invariant-loop-size l = record {
  small : AllByRecursion (λ (size : Size). unsigned_abs size.value < VALUE_SIZE) (drop l.size-index l.sizes);
  same : value_for l.name (map named_of (drop l.size-index l.sizes)) ≡ value_for l.name (map named_of l.sizes);
}
