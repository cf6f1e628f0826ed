use Rattle.std.proofs.Common.{◌≡◌, ◌++◌, drop, map}
use Rattle.std.specs.Prelude.{flat_map}
use Rattle.affine_program.specs.Parts.{meaning}
use Rattle.k_partition.specs.View.{partition_of}
use Rattle.reuse_paths.specs.Families.{family_of}
use Rattle.dep_quast.specs.Quasts.{trees_of}
use Rattle.iolb_check.specs.FamilyTargets.{family_targets, partition_targets}
use Rattle.iolb_check.proofs.family_targets.targets_of_partition.Given as goal

abbrev pub invariant-loop-family : goal.invariant-loop-family
invariant-loop-family l =
    l.targets.items ++ flat_map (family_targets (meaning l.program) (trees_of l.quasts) l.term.statement) (map family_of (drop l.family-index l.families))
    ≡ partition_targets (meaning l.program) (trees_of l.quasts) (partition_of l.term)
