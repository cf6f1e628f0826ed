use Rattle.std.proofs.Common.{◌+◌, ◌≤◌, length, drop, map}
use Rattle.std.specs.Prelude.{Result, flat_map}
use Rattle.claims.specs.declared.refused.Refused.{Refused}
use Rattle.affine_program.specs.Parts.{meaning}
use Rattle.claims.specs.Shown.{pointless_claims}
use Rattle.claims.specs.Claims.{Decides}
use Rattle.dep_quast.specs.Levels.{levels}
use Rattle.store_terms.specs.Claims.{claim_of_output}
use Rattle.last_writers.specs.OutputClaims.{later_write, later_writes}
use Rattle.last_writers.proofs.later_shown.writers_shown.Given as goal

abbrev pub invariant-loop-writer : goal.invariant-loop-writer
invariant-loop-writer l = record {
  room : l.at + length (flat_map (λ writer. map (later_write (meaning l.program) (claim_of_output l.output) writer) (levels (meaning l.program) l.output.statement writer)) (drop l.writer-index l.writer-items)) ≤ length l.output.later.items;
  decided : (answer : Result (Unit {0}) Refused)
      → Decides (pointless_claims 24 l.place l.at (flat_map (λ writer. map (later_write (meaning l.program) (claim_of_output l.output) writer) (levels (meaning l.program) l.output.statement writer)) (drop l.writer-index l.writer-items)) (drop l.at l.output.later.items)) answer
      → Decides (pointless_claims 24 l.place 0 (later_writes (meaning l.program) (claim_of_output l.output)) l.output.later.items) answer;
}
