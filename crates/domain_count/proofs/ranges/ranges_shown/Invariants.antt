use Rattle.std.proofs.Common.{drop}
use Rattle.std.specs.Prelude.{Result}
use Rattle.affine_program.specs.Parts.{meaning}
use Rattle.claims.specs.Claims.{Decides, numbered}
use Rattle.claims.specs.declared.refused.Refused.{Refused}
use Rattle.domain_count.specs.CountClaims.{range_claim}
use Rattle.domain_count.proofs.ranges.ranges_shown.Given as goal

abbrev pub invariant-loop-k : goal.invariant-loop-k
invariant-loop-k l =
    (answer : Result (Unit {0}) Refused) → Decides (numbered (range_claim (meaning l.program) l.bounds l.shown l.place) l.k (drop l.k l.bounds)) answer
    → Decides (numbered (range_claim (meaning l.program) l.bounds l.shown l.place) 0 l.bounds) answer
