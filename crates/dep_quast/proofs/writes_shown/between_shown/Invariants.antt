use Rattle.std.proofs.Common.{◌+◌, ◌≤◌, length, drop, map}
use Rattle.std.specs.Prelude.{Result, flat_map}
use Rattle.claims.specs.declared.refused.Refused.{Refused}
use Rattle.affine_program.specs.Parts.{meaning}
use Rattle.claims.specs.Shown.{pointless_claims}
use Rattle.dep_quast.specs.Context.{write_between, writes_between}
use Rattle.dep_quast.specs.Levels.{levels}
use Rattle.claims.specs.Claims.{Decides}
use Rattle.dep_quast.specs.Views.{read_of, claim_of}
use Rattle.dep_quast.proofs.writes_shown.between_shown.Given as goal

abbrev pub invariant-loop-writer : goal.invariant-loop-writer
invariant-loop-writer l = record {
  room : l.at + length (flat_map (λ writer. flat_map (λ after. map (write_between (meaning l.program) (read_of l.reader) l.rows (claim_of l.claimed) writer after) (levels (meaning l.program) writer l.reader.statement)) (levels (meaning l.program) l.claimed.statement writer)) (drop l.writer-index l.writer-items)) ≤ length l.claimed.between.now;
  decided : (answer : Result (Unit {0}) Refused)
      → Decides (pointless_claims 6 l.place l.at (flat_map (λ writer. flat_map (λ after. map (write_between (meaning l.program) (read_of l.reader) l.rows (claim_of l.claimed) writer after) (levels (meaning l.program) writer l.reader.statement)) (levels (meaning l.program) l.claimed.statement writer)) (drop l.writer-index l.writer-items)) (drop l.at l.claimed.between.now)) answer
      → Decides (pointless_claims 6 l.place 0 (writes_between (meaning l.program) (read_of l.reader) l.rows (claim_of l.claimed)) l.claimed.between.now) answer;
}
