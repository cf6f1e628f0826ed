use Rattle.std.proofs.Common.{drop}
use Rattle.std.specs.Prelude.{Result}
use Rattle.claims.specs.declared.refused.Refused.{Refused}
use Rattle.claims.specs.Shown.{follow_claims}
use Rattle.claims.specs.Claims.{Decides}
use Rattle.claims.proofs.shown.goals_shown.Given as goal

abbrev pub invariant-loop-i : goal.invariant-loop-i
invariant-loop-i l =
    (answer : Result (Unit {0}) Refused) → Decides (follow_claims l.condition l.place l.system l.i (drop l.i l.goals) (drop l.i l.shown)) answer
    → Decides (follow_claims l.condition l.place l.system 0 l.goals l.shown) answer
