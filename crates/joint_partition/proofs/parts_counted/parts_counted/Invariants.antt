use Rattle.std.proofs.Common.{drop, length, map, take}
use Rattle.std.specs.Prelude.{Result}
use Rattle.claims.specs.Claims.{Decides, numbered}
use Rattle.claims.specs.declared.refused.Refused.{Refused}
use Rattle.affine_program.specs.Parts.{meaning}
use Rattle.k_partition.specs.PartitionClaims.{no_points, IsCreditsTotal}
use Rattle.joint_partition.specs.Claims.{count_of, part_claims}
use Rattle.joint_partition.specs.View.{part_of}
use Rattle.joint_partition.proofs.parts_counted.parts_counted.Given as goal

abbrev pub invariant-loop-i : goal.invariant-loop-i
invariant-loop-i l = record {
  total : IsCreditsTotal (length l.program.params) no_points (take l.i (map count_of (map part_of l.parts))) l.total;
  claims : (answer : Result (Unit {0}) Refused) → Decides (numbered (part_claims (meaning l.program) l.place (map part_of l.parts)) l.i (drop l.i (map part_of l.parts))) answer
      → Decides (numbered (part_claims (meaning l.program) l.place (map part_of l.parts)) 0 (map part_of l.parts)) answer;
}
