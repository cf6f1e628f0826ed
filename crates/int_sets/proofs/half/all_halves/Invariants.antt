use Rattle.std.proofs.Common.{ℕ, List, take}
use Rattle.std.specs.List.{AllByRecursion}
use Rattle.int_sets.specs.Halves.{Holds, IsHalf, PairsWith}
use Rattle.int_sets.specs.declared.half.Half.{Half}
use Rattle.int_sets.proofs.half.all_halves.Given as goal

abbrev pub invariant-loop-first : goal.invariant-loop-first
invariant-loop-first l = record {
  halves : AllByRecursion (IsHalf l.system.rows) l.halves.items;
  kept : (weights : List (ℕ × ℕ)) → Holds l.small weights → Holds l.halves.items weights;
  pairs : AllByRecursion (λ (first : Half). PairsWith first l.small l.halves.items) (take l.first-index l.small);
}
