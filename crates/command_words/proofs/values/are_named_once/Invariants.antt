use Rattle.std.proofs.Common.{◌≡◌, drop, map}
use Rattle.std.specs.Prelude.{◌==◌}
use Rattle.std.specs.List.{list_all}
use Rattle.command_words.specs.Sizes.{named_of, times}
use Rattle.command_words.proofs.values.are_named_once.Given as goal

abbrev pub invariant-loop-name : goal.invariant-loop-name
invariant-loop-name l =
    list_all (λ name. times name (map named_of l.sizes) == 1) (drop l.name-index l.names) ≡ list_all (λ name. times name (map named_of l.sizes) == 1) l.names
