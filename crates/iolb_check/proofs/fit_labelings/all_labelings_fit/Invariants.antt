use Rattle.std.proofs.Common.{drop, map}
use Rattle.std.specs.Prelude.{Result}
use Rattle.claims.specs.Claims.{numbered, Decides}
use Rattle.claims.specs.declared.refused.Refused.{Refused}
use Rattle.affine_program.specs.Parts.{meaning}
use Rattle.joint_partition.specs.View.{labeling_of}
use Rattle.iolb_check.specs.JointFit.{labeling_at}
use Rattle.iolb_check.proofs.fit_labelings.all_labelings_fit.Given as goal

abbrev pub invariant-loop-index : goal.invariant-loop-index
invariant-loop-index l = (answer : Result (Unit {0}) Refused) → Decides (numbered (labeling_at (meaning l.program) l.size l.list) l.index (map labeling_of (drop l.index l.labelings))) answer
    → Decides (numbered (labeling_at (meaning l.program) l.size l.list) 0 (map labeling_of l.labelings)) answer
