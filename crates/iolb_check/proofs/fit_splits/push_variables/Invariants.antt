use Rattle.std.proofs.Common.{◌≡◌, ◌++◌, drop, map}
use Rattle.affine_program.specs.Parts.{meaning}
use Rattle.joint_partition.specs.View.{part_of}
use Rattle.iolb_check.specs.JointFit.{pair_variables}
use Rattle.iolb_check.proofs.fit_splits.push_variables.Given as goal

abbrev pub invariant-loop-other : goal.invariant-loop-other
invariant-loop-other l =
    l.pairs.items ++ map (pair_variables (meaning l.program) (part_of l.part)) (map part_of (drop l.other-index l.others))
    ≡ l.initial.pairs.items ++ map (pair_variables (meaning l.program) (part_of l.part)) (map part_of l.others)
