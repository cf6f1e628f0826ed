use Rattle.std.proofs.Common.{◌≡◌, ◌++◌, take}
use Rattle.std.specs.List.{flat_map}
use Rattle.comparisons.specs.Tables.{character}
use Rattle.comparisons.proofs.strings.write_characters.Given as goal

abbrev pub invariant-loop-byte : goal.invariant-loop-byte
invariant-loop-byte l = l.page ≡ l.initial.page ++ flat_map character (take l.byte-index l.name)
