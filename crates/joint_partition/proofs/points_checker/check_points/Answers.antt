use Rattle.std.proofs.Common.{sym, subst, ℕ}
use Rattle.std.specs.List.{AllByRecursion}
use Rattle.joint_partition.specs.JointWords.{dimensions_of}
use Rattle.joint_partition.specs.View.{FitsPart, joint_of}
use Rattle.joint_partition.proofs.points_checker.check_points.Goals as goal

pub parts_counted-requires : goal.parts_counted-requires
parts_counted-requires c =
    let dimensions : ℕ = dimensions_of (joint_of c.args.term.now) in
    (dimensions, subst (AllByRecursion (FitsPart c.args.program.now dimensions)) (sym c.as_slice-parts.ensures.value) c.requires.parts)

pub distinct_shown-requires-clause-parts : goal.distinct_shown-requires-clause-parts
distinct_shown-requires-clause-parts c =
    let dimensions : ℕ = dimensions_of (joint_of c.args.term.now) in
    (dimensions, subst (AllByRecursion (FitsPart c.args.program.now dimensions)) (sym c.as_slice-parts.ensures.value) c.requires.parts)
