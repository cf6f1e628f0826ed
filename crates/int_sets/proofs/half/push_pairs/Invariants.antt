use Rattle.std.proofs.Common.{ℕ, List, take}
use Rattle.std.specs.List.{AllByRecursion}
use Rattle.int_sets.specs.Halves.{Holds, IsHalf, PairsWith}
use Rattle.int_sets.proofs.half.push_pairs.Given as goal

abbrev pub invariant-loop-second : goal.invariant-loop-second
invariant-loop-second l = record {
  halves : AllByRecursion (IsHalf l.system.rows) l.halves.items;
  kept : (weights : List (ℕ × ℕ)) → Holds l.fn.halves.items weights → Holds l.halves.items weights;
  pairs : PairsWith l.first (take l.second-index l.small) l.halves.items;
}
