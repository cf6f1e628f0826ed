use Rattle.std.proofs.Common.{◌≡◌, ◌<◌, drop, map}
use Rattle.std.specs.Prelude.{unsigned_abs, string_bytes}
use Rattle.std.specs.List.{AllByRecursion}
use Rattle.command_words.specs.declared.size.Size.{Size}
use Rattle.command_words.specs.Sizes.{named_of, sizes_in}
use Rattle.command_words.proofs.ReadSizes.{sizes-behind}
use Rattle.command_words.proofs.size.sizes_of.Given as goal
use Rattle.iolb_model.specs.declared.limits.TheConstants.{VALUE_SIZE}

abbrev pub invariant-loop-word : goal.invariant-loop-word
invariant-loop-word l = record {
  same : sizes_in (map (λ word. string_bytes word) l.words) ≡ sizes-behind (map named_of l.sizes.items) (sizes_in (map (λ word. string_bytes word) (drop l.word-index l.words)));
  small : AllByRecursion (λ (size : Size). unsigned_abs size.value < VALUE_SIZE) l.sizes.items;
}
