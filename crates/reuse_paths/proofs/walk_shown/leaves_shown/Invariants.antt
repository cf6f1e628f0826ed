use Rattle.std.proofs.Common.{drop, map}
use Rattle.std.specs.Prelude.{Result}
use Rattle.claims.specs.declared.refused.Refused.{Refused}
use Rattle.claims.specs.Claims.{Decides}
use Rattle.dep_quast.specs.Views.{read_of}
use Rattle.reuse_paths.specs.LeafClaims.{claim_of}
use Rattle.reuse_paths.specs.WalkClaims.{leaves_claims}
use Rattle.reuse_paths.specs.WalkViews.{walk_of}
use Rattle.reuse_paths.proofs.walk_shown.leaves_shown.Given as goal

abbrev pub invariant-loop-i : goal.invariant-loop-i
invariant-loop-i l =
    (answer : Result (Unit {0}) Refused) → Decides (leaves_claims l.walking.condition (walk_of l.walking) (read_of l.reader) l.list l.rows l.i (drop l.i l.leaves) (map claim_of (drop l.i l.entries))) answer
    → Decides (leaves_claims l.walking.condition (walk_of l.walking) (read_of l.reader) l.list l.rows 0 l.leaves (map claim_of l.entries)) answer
