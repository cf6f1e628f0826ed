use Rattle.std.proofs.Common.{drop, map}
use Rattle.std.specs.Prelude.{Result}
use Rattle.claims.specs.Claims.{numbered, Decides}
use Rattle.claims.specs.declared.refused.Refused.{Refused}
use Rattle.affine_program.specs.Parts.{meaning}
use Rattle.dep_quast.specs.Quasts.{trees_of}
use Rattle.joint_partition.specs.View.{family_of, joint_of}
use Rattle.iolb_check.specs.JointFit.{group_family_at}
use Rattle.iolb_check.proofs.fit_joint_walks.all_joint_families_fit.Given as goal

abbrev pub invariant-loop-index : goal.invariant-loop-index
invariant-loop-index l = (answer : Result (Unit {0}) Refused) → Decides (numbered (group_family_at (meaning l.program) (trees_of l.quasts) (joint_of l.term) l.list) l.index (map family_of (drop l.index l.families))) answer
    → Decides (numbered (group_family_at (meaning l.program) (trees_of l.quasts) (joint_of l.term) l.list) 0 (map family_of l.families)) answer
