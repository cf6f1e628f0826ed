use Rattle.std.proofs.Common.{◌+◌, ◌-◌, ◌*◌, ◌≤◌, length, drop, map}
use Rattle.std.specs.Prelude.{Result, flat_map}
use Rattle.std.specs.List.{range_with_len}
use Rattle.claims.specs.declared.refused.Refused.{Refused}
use Rattle.affine_program.specs.Parts.{meaning}
use Rattle.claims.specs.Shown.{pointless_claims}
use Rattle.dep_quast.specs.Context.{before_reader, after_source}
use Rattle.dep_quast.specs.Levels.{levels}
use Rattle.claims.specs.Claims.{Decides}
use Rattle.dep_quast.specs.Views.{read_of, claim_of}
use Rattle.dep_quast.proofs.writes_shown.levels_between_shown.Given as goal

abbrev pub invariant-loop-after : goal.invariant-loop-after
invariant-loop-after l = record {
  room : l.at + (l.after-end - l.after) * l.many ≤ length l.claimed.between.now;
  decided : (answer : Result (Unit {0}) Refused)
      → Decides (pointless_claims 6 l.place l.at (flat_map (λ after. map (before_reader (meaning l.program) (read_of l.reader) l.writer (after_source (meaning l.program) (read_of l.reader) l.writer l.rows (claim_of l.claimed) after))
      (levels (meaning l.program) l.writer l.reader.statement)) (range_with_len l.after (l.after-end - l.after))) (drop l.at l.claimed.between.now)) answer
      → Decides (pointless_claims 6 l.place l.first (flat_map (λ after. map (before_reader (meaning l.program) (read_of l.reader) l.writer (after_source (meaning l.program) (read_of l.reader) l.writer l.rows (claim_of l.claimed) after))
      (levels (meaning l.program) l.writer l.reader.statement)) (levels (meaning l.program) l.claimed.statement l.writer)) (drop l.first l.claimed.between.now)) answer;
}
