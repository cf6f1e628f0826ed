use Rattle.std.proofs.Common.{drop}
use Rattle.std.specs.Prelude.{Result}
use Rattle.claims.specs.Claims.{Decides, numbered}
use Rattle.claims.specs.declared.refused.Refused.{Refused}
use Rattle.affine_program.specs.Parts.{meaning}
use Rattle.dep_quast.specs.Quasts.{trees_of}
use Rattle.k_partition.specs.PartitionClaims.{family_claims_at}
use Rattle.k_partition.specs.View.{partition_of}
use Rattle.k_partition.proofs.families_checked.families_checked.Given as goal

abbrev pub invariant-loop-i : goal.invariant-loop-i
invariant-loop-i l =
    (answer : Result (Unit {0}) Refused) → Decides (numbered (family_claims_at (meaning l.program) (trees_of l.quasts) l.place (partition_of l.term)) l.i (drop l.i (partition_of l.term).families)) answer
    → Decides (numbered (family_claims_at (meaning l.program) (trees_of l.quasts) l.place (partition_of l.term)) 0 (partition_of l.term).families) answer
