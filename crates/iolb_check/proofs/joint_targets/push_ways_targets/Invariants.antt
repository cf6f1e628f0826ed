use Rattle.std.proofs.Common.{◌≡◌, ◌++◌, drop, map}
use Rattle.std.specs.Prelude.{flat_map}
use Rattle.affine_program.specs.Parts.{meaning}
use Rattle.dep_quast.specs.Quasts.{trees_of}
use Rattle.joint_partition.specs.View.{way_of}
use Rattle.iolb_check.specs.FamilyTargets.{way_targets}
use Rattle.iolb_check.proofs.joint_targets.push_ways_targets.Given as goal

abbrev pub invariant-loop-way : goal.invariant-loop-way
invariant-loop-way l =
    l.targets.items ++ flat_map (way_targets (meaning l.program) (trees_of l.quasts)) (map way_of (drop l.way-index l.ways))
    ≡ l.initial.targets.items ++ flat_map (way_targets (meaning l.program) (trees_of l.quasts)) (map way_of l.ways)
