use Rattle.std.proofs.Common.{◌+◌, ◌-◌, drop, map}
use Rattle.std.specs.Prelude.{Result}
use Rattle.std.specs.List.{range_with_len}
use Rattle.claims.specs.declared.refused.Refused.{Refused}
use Rattle.affine_program.specs.Parts.{meaning}
use Rattle.claims.specs.Shown.{pointless_claims}
use Rattle.dep_quast.specs.Context.{before_reader}
use Rattle.dep_quast.specs.Levels.{levels}
use Rattle.claims.specs.Claims.{Decides}
use Rattle.dep_quast.specs.Views.{read_of}
use Rattle.dep_quast.proofs.writes_shown.levels_shown.Given as goal

abbrev pub invariant-loop-level : goal.invariant-loop-level
invariant-loop-level l =
    (answer : Result (Unit {0}) Refused)
    → Decides (pointless_claims 6 l.place (l.first + l.level) (map (before_reader (meaning l.program) (read_of l.reader) l.writer l.rows) (range_with_len l.level (l.level-end - l.level))) (drop (l.first + l.level) l.shown)) answer
    → Decides (pointless_claims 6 l.place l.first (map (before_reader (meaning l.program) (read_of l.reader) l.writer l.rows) (levels (meaning l.program) l.writer l.reader.statement)) (drop l.first l.shown)) answer
