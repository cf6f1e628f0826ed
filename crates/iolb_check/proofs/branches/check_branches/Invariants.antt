use Rattle.std.proofs.Common.{◌++◌, List, drop, map}
use Rattle.std.specs.List.{AllByRecursion}
use Rattle.affine_program.specs.Parts.{meaning}
use Rattle.claims.specs.Claims.{AllHold, IsRefusal, numbered}
use Rattle.claims.specs.declared.refused.Refused.{Refused}
use Rattle.dep_quast.specs.Quasts.{trees_of}
use Rattle.iolb_check.specs.declared.bound.Value.{Value}
use Rattle.iolb_check.specs.Bounds.{lists}
use Rattle.iolb_check.specs.Claims.{claim_of_branch}
use Rattle.iolb_check.specs.Fit.{BranchesFit}
use Rattle.iolb_check.specs.Conditions.{AreBranchValues, branch_claims}
use Rattle.iolb_check.specs.Holds.{BranchesHold}
use Rattle.iolb_check.specs.Sound.{IsSoundBranch}
use Rattle.iolb_check.proofs.branches.check_branches.Given as goal

abbrev pub invariant-loop-number : goal.invariant-loop-number
invariant-loop-number l = record {
  fits : BranchesFit l.program (trees_of l.quasts) (drop l.number l.branches);
  accepted : AllHold (numbered (branch_claims (meaning l.program) (trees_of l.quasts)) l.number (map claim_of_branch (drop l.number l.branches))) → AllHold (numbered (branch_claims (meaning l.program) (trees_of l.quasts)) 0 (map claim_of_branch l.branches));
  values : (rest : List (List Value)) → AreBranchValues (meaning l.program) (map claim_of_branch (drop l.number l.branches)) rest → AreBranchValues (meaning l.program) (map claim_of_branch l.branches) (lists l.values.items ++ rest);
  hold : (rest : List (List Value)) → BranchesHold l.program (drop l.number l.branches) rest → BranchesHold l.program l.branches (lists l.values.items ++ rest);
  sound : AllByRecursion (IsSoundBranch l.program) (drop l.number l.branches) → AllByRecursion (IsSoundBranch l.program) l.branches;
  refused : (r : Refused) → IsRefusal (numbered (branch_claims (meaning l.program) (trees_of l.quasts)) l.number (map claim_of_branch (drop l.number l.branches))) r → IsRefusal (numbered (branch_claims (meaning l.program) (trees_of l.quasts)) 0 (map claim_of_branch l.branches)) r;
}
