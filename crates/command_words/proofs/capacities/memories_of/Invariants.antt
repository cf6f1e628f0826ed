use Rattle.std.proofs.Common.{◌≡◌, ◌≤◌, drop, map, length}
use Rattle.std.specs.List.{AllByRecursion}
use Rattle.command_words.specs.Numbers.{memories_in}
use Rattle.command_words.proofs.ReadNumbers.{numbers-behind}
use Rattle.command_words.proofs.capacities.memories_of.Given as goal

abbrev pub invariant-loop-word : goal.invariant-loop-word
invariant-loop-word l = record {
  same : memories_in (map (λ word. word.now) l.words) ≡ numbers-behind l.numbers.items (memories_in (map (λ word. word.now) (drop l.word-index l.words)));
  each : AllByRecursion (λ number. 1 ≤ number) l.numbers.items;
  some : length l.numbers.items ≡ l.word-index;
}
