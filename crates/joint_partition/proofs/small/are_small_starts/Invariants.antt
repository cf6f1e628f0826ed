use Rattle.std.proofs.Common.{drop, map}
use Rattle.std.specs.Prelude.{◌↔◌}
use Rattle.std.specs.List.{AllByRecursion}
use Rattle.joint_partition.specs.Limits.{IsSmallStart}
use Rattle.joint_partition.specs.View.{start_of}
use Rattle.joint_partition.proofs.small.are_small_starts.Given as goal

abbrev pub invariant-loop-start : goal.invariant-loop-start
invariant-loop-start l = AllByRecursion IsSmallStart (map start_of (drop l.start-index l.starts)) ↔ AllByRecursion IsSmallStart (map start_of l.starts)
