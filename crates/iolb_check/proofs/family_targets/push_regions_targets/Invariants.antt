use Rattle.std.proofs.Common.{◌≡◌, ◌++◌, drop, map}
use Rattle.std.specs.Prelude.{option_map}
use Rattle.affine_program.specs.Parts.{meaning}
use Rattle.reuse_paths.specs.Families.{boxed_node, node_region}
use Rattle.dep_quast.specs.Quasts.{trees_of}
use Rattle.iolb_check.specs.FamilyTargets.{regions_targets}
use Rattle.iolb_check.proofs.family_targets.push_regions_targets.Given as goal

abbrev pub invariant-loop-number : goal.invariant-loop-number
invariant-loop-number l =
    l.targets.items ++ regions_targets (meaning l.program) (trees_of l.quasts) l.number (map node_region (map (option_map boxed_node) (drop l.number l.nodes)))
    ≡ l.initial.targets.items ++ regions_targets (meaning l.program) (trees_of l.quasts) 0 (map node_region (map (option_map boxed_node) l.nodes))
