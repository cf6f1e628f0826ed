use Rattle.std.proofs.Common.{drop}
use Rattle.std.specs.Prelude.{Result}
use Rattle.claims.specs.Claims.{Decides, numbered}
use Rattle.claims.specs.declared.refused.Refused.{Refused}
use Rattle.wavefront.specs.FrontClaims.{outer_claim}
use Rattle.wavefront.proofs.front_shown.outer_shown.Given as goal

abbrev pub invariant-loop-i : goal.invariant-loop-i
invariant-loop-i l =
    (answer : Result (Unit {0}) Refused) → Decides (numbered (outer_claim l.first l.place) l.i (drop l.i l.term.vertex.point.items)) answer
    → Decides (numbered (outer_claim l.first l.place) 0 l.term.vertex.point.items) answer
