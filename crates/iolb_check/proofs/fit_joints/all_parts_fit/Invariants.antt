use Rattle.std.proofs.Common.{drop, map}
use Rattle.std.specs.Prelude.{Result}
use Rattle.claims.specs.Claims.{numbered, Decides}
use Rattle.claims.specs.declared.refused.Refused.{Refused}
use Rattle.affine_program.specs.Parts.{meaning}
use Rattle.joint_partition.specs.View.{part_of}
use Rattle.iolb_check.specs.JointFit.{part_at}
use Rattle.iolb_check.proofs.fit_joints.all_parts_fit.Given as goal

abbrev pub invariant-loop-index : goal.invariant-loop-index
invariant-loop-index l = (answer : Result (Unit {0}) Refused) → Decides (numbered (part_at (meaning l.program) l.dimensions l.list) l.index (map part_of (drop l.index l.parts))) answer
    → Decides (numbered (part_at (meaning l.program) l.dimensions l.list) 0 (map part_of l.parts)) answer
