use Rattle.std.proofs.Common.{drop, map}
use Rattle.std.specs.Prelude.{◌↔◌}
use Rattle.std.specs.List.{AllByRecursion}
use Rattle.joint_partition.specs.Limits.{IsSmallWay}
use Rattle.joint_partition.specs.View.{way_of}
use Rattle.joint_partition.proofs.small.are_small_ways.Given as goal

abbrev pub invariant-loop-way : goal.invariant-loop-way
invariant-loop-way l = AllByRecursion IsSmallWay (map way_of (drop l.way-index l.ways)) ↔ AllByRecursion IsSmallWay (map way_of l.ways)
