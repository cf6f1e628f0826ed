use Rattle.std.proofs.Common.{◌≡◌, ◌≤◌, ◌+◌, drop, map}
use Rattle.command_words.specs.Sizes.{named_of, times}
use Rattle.command_words.proofs.values.times.Given as goal

abbrev pub invariant-loop-size : goal.invariant-loop-size
invariant-loop-size l = record {
  few : l.count ≤ l.size-index;
  same : l.count + times l.name (map named_of (drop l.size-index l.sizes)) ≡ times l.name (map named_of l.sizes);
}
