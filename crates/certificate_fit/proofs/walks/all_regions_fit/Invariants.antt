use Rattle.std.proofs.Common.{drop, map}
use Rattle.std.specs.Prelude.{Result, option_map}
use Rattle.claims.specs.Claims.{numbered}
use Rattle.reuse_paths.specs.Walks.{boxed_region}
use Rattle.claims.specs.Claims.{Decides}
use Rattle.claims.specs.declared.refused.Refused.{Refused}
use Rattle.reuse_paths.specs.WalkViews.{walk_of}
use Rattle.certificate_fit.specs.WalkFit.{region_fit}
use Rattle.certificate_fit.proofs.walks.all_regions_fit.Given as goal

abbrev pub invariant-loop-statement : goal.invariant-loop-statement
invariant-loop-statement l = (answer : Result (Unit {0}) Refused) → Decides (numbered (region_fit (walk_of l.walking) l.list) l.statement (map (option_map boxed_region) (drop l.statement l.nodes))) answer
    → Decides (numbered (region_fit (walk_of l.walking) l.list) 0 (map (option_map boxed_region) l.nodes)) answer
