use Rattle.std.proofs.Common.{drop, map}
use Rattle.std.specs.Prelude.{◌↔◌}
use Rattle.std.specs.List.{AllByRecursion}
use Rattle.joint_partition.specs.Limits.{IsSmallLabeling}
use Rattle.joint_partition.specs.View.{labeling_of}
use Rattle.joint_partition.proofs.small.are_small_labelings.Given as goal

abbrev pub invariant-loop-labels : goal.invariant-loop-labels
invariant-loop-labels l = AllByRecursion IsSmallLabeling (map labeling_of (drop l.labels-index l.all)) ↔ AllByRecursion IsSmallLabeling (map labeling_of l.all)
