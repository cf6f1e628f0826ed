use Rattle.std.proofs.Common.{◌≡◌, ◌++◌, drop, map}
use Rattle.affine_program.specs.Parts.{meaning}
use Rattle.dep_quast.specs.Quasts.{trees_of}
use Rattle.footprint_pieces.specs.TargetPairs.{items_of}
use Rattle.joint_partition.specs.Claims.{of_other_groups}
use Rattle.joint_partition.specs.View.{family_of, part_of}
use Rattle.iolb_check.specs.FamilyTargets.{group_family_targets}
use Rattle.iolb_check.proofs.joint_targets.targets_of_others.Given as goal

abbrev pub invariant-loop-other : goal.invariant-loop-other
invariant-loop-other l =
    map items_of l.lists.items ++ map (group_family_targets (meaning l.program) (trees_of l.quasts) (map part_of l.parts)) (of_other_groups (family_of l.family) (map family_of (drop l.other-index l.others)))
    ≡ map (group_family_targets (meaning l.program) (trees_of l.quasts) (map part_of l.parts)) (of_other_groups (family_of l.family) (map family_of l.others))
