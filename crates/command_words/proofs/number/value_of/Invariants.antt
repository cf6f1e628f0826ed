use Rattle.std.proofs.Common.{◌≡◌, ◌≤◌, ◌^◌, min, drop}
use Rattle.command_words.specs.Numbers.{with_digits}
use Rattle.command_words.proofs.number.value_of.Given as goal

abbrev pub invariant-loop-byte : goal.invariant-loop-byte
invariant-loop-byte l = record {
  low : l.number ≤ 2 ^ 64;
  same : min (with_digits l.number (drop l.byte-index l.word)) (2 ^ 64) ≡ min (with_digits 0 l.word) (2 ^ 64);
}
