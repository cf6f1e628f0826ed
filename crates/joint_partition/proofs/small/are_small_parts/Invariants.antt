use Rattle.std.proofs.Common.{drop}
use Rattle.std.specs.Prelude.{◌↔◌}
use Rattle.std.specs.List.{AllByRecursion}
use Rattle.joint_partition.specs.Limits.{IsSmallPart}
use Rattle.joint_partition.proofs.small.are_small_parts.Given as goal

abbrev pub invariant-loop-part : goal.invariant-loop-part
invariant-loop-part l = AllByRecursion IsSmallPart (drop l.part-index l.parts) ↔ AllByRecursion IsSmallPart l.parts
