use Rattle.std.proofs.Common.{◌≡◌, ◌++◌, drop, map}
use Rattle.std.specs.Prelude.{flat_map}
use Rattle.affine_program.specs.Parts.{meaning}
use Rattle.dep_quast.specs.Quasts.{trees_of}
use Rattle.joint_partition.specs.View.{family_of, joint_of}
use Rattle.iolb_check.specs.FamilyTargets.{group_family_targets, joint_targets}
use Rattle.iolb_check.proofs.joint_targets.targets_of_joint.Given as goal

abbrev pub invariant-loop-family : goal.invariant-loop-family
invariant-loop-family l =
    l.targets.items ++ flat_map (group_family_targets (meaning l.program) (trees_of l.quasts) (joint_of l.term).parts) (map family_of (drop l.family-index l.families))
    ≡ joint_targets (meaning l.program) (trees_of l.quasts) (joint_of l.term)
