use Rattle.std.proofs.Common.{◌+◌, ◌-◌, drop, map}
use Rattle.std.specs.Prelude.{Result}
use Rattle.std.specs.List.{range_with_len}
use Rattle.claims.specs.declared.refused.Refused.{Refused}
use Rattle.affine_program.specs.Parts.{meaning}
use Rattle.claims.specs.Shown.{pointless_claims}
use Rattle.claims.specs.Claims.{Decides}
use Rattle.dep_quast.specs.Levels.{levels}
use Rattle.store_terms.specs.Claims.{claim_of_output}
use Rattle.last_writers.specs.OutputClaims.{later_write}
use Rattle.last_writers.proofs.later_shown.levels_shown.Given as goal

abbrev pub invariant-loop-level : goal.invariant-loop-level
invariant-loop-level l =
    (answer : Result (Unit {0}) Refused)
    → Decides (pointless_claims 24 l.place (l.first + l.level) (map (later_write (meaning l.program) (claim_of_output l.output) l.writer) (range_with_len l.level (l.level-end - l.level))) (drop (l.first + l.level) l.output.later.items)) answer
    → Decides (pointless_claims 24 l.place l.first (map (later_write (meaning l.program) (claim_of_output l.output) l.writer) (levels (meaning l.program) l.output.statement l.writer)) (drop l.first l.output.later.items)) answer
