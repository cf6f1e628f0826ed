use Rattle.std.proofs.Common.{◌≡◌, ◌≤◌, ◌+◌, ◌^◌, min, sum, drop}
use Rattle.command_words.proofs.capacities.sum_of.Given as goal

abbrev pub invariant-loop-number : goal.invariant-loop-number
invariant-loop-number l = record {
  low : l.sum ≤ 2 ^ 64;
  same : min (l.sum + sum (drop l.number-index l.numbers)) (2 ^ 64) ≡ min (sum l.numbers) (2 ^ 64);
}
