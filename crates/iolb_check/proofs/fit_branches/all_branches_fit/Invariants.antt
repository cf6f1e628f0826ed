use Rattle.std.proofs.Common.{drop, map}
use Rattle.std.specs.Prelude.{Result}
use Rattle.affine_program.specs.Parts.{meaning}
use Rattle.claims.specs.Claims.{numbered, Decides}
use Rattle.claims.specs.declared.refused.Refused.{Refused}
use Rattle.iolb_check.specs.TermFit.{branch_at}
use Rattle.iolb_check.proofs.fit_branches.all_branches_fit.Given as goal
use Rattle.dep_quast.specs.Quasts.{trees_of}
use Rattle.iolb_check.specs.Claims.{claim_of_branch}

abbrev pub invariant-loop-index : goal.invariant-loop-index
invariant-loop-index l = (answer : Result (Unit {0}) Refused) → Decides (numbered (branch_at (meaning l.program) (trees_of l.quasts)) l.index (map claim_of_branch (drop l.index l.branches))) answer → Decides (numbered (branch_at (meaning l.program) (trees_of l.quasts)) 0 (map claim_of_branch l.branches)) answer
