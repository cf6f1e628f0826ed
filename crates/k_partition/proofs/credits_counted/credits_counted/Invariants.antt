use Rattle.std.proofs.Common.{drop, length, map, take}
use Rattle.std.specs.Prelude.{Result}
use Rattle.claims.specs.Claims.{Decides, numbered}
use Rattle.claims.specs.declared.refused.Refused.{Refused}
use Rattle.affine_program.specs.Parts.{meaning}
use Rattle.k_partition.specs.PartitionClaims.{credit_claims, no_points, IsCreditsTotal}
use Rattle.k_partition.specs.View.{credit_term_of}
use Rattle.k_partition.proofs.credits_counted.credits_counted.Given as goal

abbrev pub invariant-loop-i : goal.invariant-loop-i
invariant-loop-i l = record {
  total : IsCreditsTotal (length l.program.params) no_points (take l.i (map credit_term_of l.credits)) l.total;
  claims : (answer : Result (Unit {0}) Refused) → Decides (numbered (credit_claims (meaning l.program) l.place (map credit_term_of l.credits)) l.i (drop l.i (map credit_term_of l.credits))) answer
      → Decides (numbered (credit_claims (meaning l.program) l.place (map credit_term_of l.credits)) 0 (map credit_term_of l.credits)) answer;
}
