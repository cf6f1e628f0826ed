use Rattle.std.proofs.Common.{drop, map}
use Rattle.std.specs.Prelude.{Result, option_map}
use Rattle.claims.specs.Claims.{Decides, numbered}
use Rattle.claims.specs.declared.refused.Refused.{Refused}
use Rattle.reuse_paths.specs.ReachClaims.{region_claims}
use Rattle.reuse_paths.specs.Walks.{boxed_region}
use Rattle.reuse_paths.specs.WalkViews.{walk_of}
use Rattle.reuse_paths.proofs.walk_shown.regions_shown.Given as goal

abbrev pub invariant-loop-i : goal.invariant-loop-i
invariant-loop-i l =
    (answer : Result (Unit {0}) Refused) → Decides (numbered (region_claims l.walking.condition (walk_of l.walking) l.list) l.i (drop l.i (map (option_map boxed_region) l.nodes))) answer
    → Decides (numbered (region_claims l.walking.condition (walk_of l.walking) l.list) 0 (map (option_map boxed_region) l.nodes)) answer
