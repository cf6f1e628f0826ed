use Rattle.std.proofs.Common.{◌≡◌, drop}
use Rattle.std.specs.List.{list_all}
use Rattle.c_tokens.specs.Bytes.{is_space}
use Rattle.c_tokens.proofs.words.are_spaces.Given as goal

abbrev pub invariant-loop-b : goal.invariant-loop-b
invariant-loop-b l = list_all is_space (drop l.b-index l.bytes) ≡ list_all is_space l.bytes
