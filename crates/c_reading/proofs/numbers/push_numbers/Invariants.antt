use Rattle.std.proofs.Common.{◌≡◌, length}
use Rattle.c_reading.specs.Numbers.{plus_times, numbers_behind}
use Rattle.c_reading.proofs.numbers.push_numbers.Given as goal

abbrev pub invariant-loop-x : goal.invariant-loop-x
invariant-loop-x l = numbers_behind l.numbers.items (plus_times l.k l.xs l.ys) ≡ numbers_behind l.initial.numbers.items (plus_times l.k l.a l.b)

abbrev pub decreases-loop-x : goal.decreases-loop-x
decreases-loop-x l = length l.xs
