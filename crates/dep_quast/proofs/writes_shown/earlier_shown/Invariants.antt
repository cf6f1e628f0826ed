use Rattle.std.proofs.Common.{◌+◌, ◌≤◌, length, drop, map}
use Rattle.std.specs.Prelude.{Result, flat_map}
use Rattle.claims.specs.declared.refused.Refused.{Refused}
use Rattle.affine_program.specs.Parts.{meaning}
use Rattle.claims.specs.Shown.{pointless_claims}
use Rattle.dep_quast.specs.Context.{earlier_write, earlier_writes}
use Rattle.dep_quast.specs.Levels.{levels}
use Rattle.claims.specs.Claims.{Decides}
use Rattle.dep_quast.specs.Views.{read_of}
use Rattle.dep_quast.proofs.writes_shown.earlier_shown.Given as goal

abbrev pub invariant-loop-writer : goal.invariant-loop-writer
invariant-loop-writer l = record {
  room : l.at + length (flat_map (λ writer. map (earlier_write (meaning l.program) (read_of l.reader) l.rows writer) (levels (meaning l.program) writer l.reader.statement)) (drop l.writer-index l.writer-items)) ≤ length l.shown;
  decided : (answer : Result (Unit {0}) Refused)
      → Decides (pointless_claims 6 l.place l.at (flat_map (λ writer. map (earlier_write (meaning l.program) (read_of l.reader) l.rows writer) (levels (meaning l.program) writer l.reader.statement)) (drop l.writer-index l.writer-items)) (drop l.at l.shown)) answer
      → Decides (pointless_claims 6 l.place 0 (earlier_writes (meaning l.program) (read_of l.reader) l.rows) l.shown) answer;
}
