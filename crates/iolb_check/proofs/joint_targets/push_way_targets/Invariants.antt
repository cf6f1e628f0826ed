use Rattle.std.proofs.Common.{◌≡◌, ◌++◌, drop, map}
use Rattle.std.specs.Prelude.{option_map}
use Rattle.affine_program.specs.Parts.{meaning}
use Rattle.dep_quast.specs.Quasts.{trees_of}
use Rattle.reuse_paths.specs.Walks.{boxed_region}
use Rattle.iolb_check.specs.FamilyTargets.{regions_targets}
use Rattle.iolb_check.proofs.joint_targets.push_way_targets.Given as goal

abbrev pub invariant-loop-number : goal.invariant-loop-number
invariant-loop-number l =
    l.targets.items ++ regions_targets (meaning l.program) (trees_of l.quasts) l.number (map (option_map boxed_region) (drop l.number l.regions))
    ≡ l.initial.targets.items ++ regions_targets (meaning l.program) (trees_of l.quasts) 0 (map (option_map boxed_region) l.regions)
