use Rattle.std.proofs.Common.{drop, map}
use Rattle.std.specs.Prelude.{◌↔◌}
use Rattle.std.specs.List.{AllByRecursion}
use Rattle.joint_partition.specs.Limits.{IsSmallSplit}
use Rattle.joint_partition.specs.View.{split_of}
use Rattle.joint_partition.proofs.small.are_small_splits.Given as goal

abbrev pub invariant-loop-split : goal.invariant-loop-split
invariant-loop-split l = AllByRecursion IsSmallSplit (map split_of (drop l.split-index l.splits)) ↔ AllByRecursion IsSmallSplit (map split_of l.splits)
