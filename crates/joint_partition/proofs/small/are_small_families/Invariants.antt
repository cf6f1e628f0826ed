use Rattle.std.proofs.Common.{drop, map}
use Rattle.std.specs.Prelude.{◌↔◌}
use Rattle.std.specs.List.{AllByRecursion}
use Rattle.joint_partition.specs.Limits.{IsSmallJointFamily}
use Rattle.joint_partition.specs.View.{family_of}
use Rattle.joint_partition.proofs.small.are_small_families.Given as goal

abbrev pub invariant-loop-family : goal.invariant-loop-family
invariant-loop-family l = AllByRecursion IsSmallJointFamily (map family_of (drop l.family-index l.families)) ↔ AllByRecursion IsSmallJointFamily (map family_of l.families)
