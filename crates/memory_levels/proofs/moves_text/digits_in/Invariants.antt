-- The bytes so far are digits, with this value.
use Rattle.std.proofs.Common.{◌≡◌, take}
use Rattle.std.specs.Str.Parse.{AllDigits, digits_value}
use Rattle.memory_levels.proofs.moves_text.digits_in.Given as goal

abbrev pub invariant-loop-place : goal.invariant-loop-place
invariant-loop-place l = record {
  digits : AllDigits 10 (take l.place l.bytes);
  value : l.value ≡ digits_value 10 (take l.place l.bytes);
}
