use Rattle.std.proofs.Common.{◌≤◌, ◌+◌, drop, length}
use Rattle.std.specs.Prelude.{Result}
use Rattle.claims.specs.Claims.{Decides}
use Rattle.claims.specs.declared.refused.Refused.{Refused}
use Rattle.domain_count.specs.Count.{IsSumFrom}
use Rattle.domain_count.specs.CountClaims.{sums_down}
use Rattle.domain_count.proofs.count.sum_up.Given as goal

abbrev pub invariant-loop-k : goal.invariant-loop-k
invariant-loop-k l =
    (l.k ≤ length l.bounds) × IsSumFrom (l.params + l.k) (drop l.k l.bounds) (drop l.k l.sums) l.total
    × ((answer : Result (Unit {0}) Refused) → Decides (sums_down l.params l.bounds l.sums l.place l.key l.k) answer → Decides (sums_down l.params l.bounds l.sums l.place l.key (length l.bounds)) answer)

abbrev pub decreases-loop-k : goal.decreases-loop-k
decreases-loop-k l = l.k
