use Rattle.std.proofs.Common.{drop, map}
use Rattle.std.specs.Prelude.{Result}
use Rattle.claims.specs.declared.refused.Refused.{Refused}
use Rattle.claims.specs.Claims.{Decides}
use Rattle.reuse_paths.specs.LeafClaims.{claim_of}
use Rattle.wavefront.specs.Leaves.{leaves_claims}
use Rattle.wavefront.proofs.leaves_shown.leaves_shown.Given as goal

abbrev pub invariant-loop-i : goal.invariant-loop-i
invariant-loop-i l =
    (answer : Result (Unit {0}) Refused) → Decides (leaves_claims l.vars l.rows l.list l.i (drop l.i l.leaves) (map claim_of (drop l.i l.entries))) answer
    → Decides (leaves_claims l.vars l.rows l.list 0 l.leaves (map claim_of l.entries)) answer
