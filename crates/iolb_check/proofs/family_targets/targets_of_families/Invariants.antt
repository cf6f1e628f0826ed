use Rattle.std.proofs.Common.{◌≡◌, ◌++◌, drop, map}
use Rattle.affine_program.specs.Parts.{meaning}
use Rattle.reuse_paths.specs.Families.{family_of}
use Rattle.dep_quast.specs.Quasts.{trees_of}
use Rattle.footprint_pieces.specs.TargetPairs.{items_of}
use Rattle.iolb_check.specs.FamilyTargets.{family_targets}
use Rattle.iolb_check.proofs.family_targets.targets_of_families.Given as goal

abbrev pub invariant-loop-family : goal.invariant-loop-family
invariant-loop-family l =
    map items_of l.lists.items ++ map (family_targets (meaning l.program) (trees_of l.quasts) l.statement) (map family_of (drop l.family-index l.families))
    ≡ map (family_targets (meaning l.program) (trees_of l.quasts) l.statement) (map family_of l.families)
