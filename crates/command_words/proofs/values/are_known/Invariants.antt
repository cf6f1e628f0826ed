use Rattle.std.proofs.Common.{◌≡◌, drop, map}
use Rattle.std.specs.Prelude.{bytes_eq}
use Rattle.std.specs.List.{list_all, list_any}
use Rattle.command_words.specs.Sizes.{NamedSize, named_of}
use Rattle.command_words.proofs.values.are_known.Given as goal

abbrev pub invariant-loop-size : goal.invariant-loop-size
invariant-loop-size l =
    list_all (λ (size : NamedSize). list_any (λ name. bytes_eq size.name name) l.names) (map named_of (drop l.size-index l.sizes))
    ≡ list_all (λ (size : NamedSize). list_any (λ name. bytes_eq size.name name) l.names) (map named_of l.sizes)
