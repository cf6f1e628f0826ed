use Rattle.std.proofs.Common.{drop, map}
use Rattle.std.specs.Prelude.{Result}
use Rattle.claims.specs.Claims.{numbered, Decides}
use Rattle.claims.specs.declared.refused.Refused.{Refused}
use Rattle.joint_partition.specs.View.{way_of}
use Rattle.iolb_check.specs.JointWalks.{way_in}
use Rattle.iolb_check.proofs.fit_ways.all_ways_fit.Given as goal

abbrev pub invariant-loop-index : goal.invariant-loop-index
invariant-loop-index l = (answer : Result (Unit {0}) Refused) → Decides (numbered (way_in l.walks l.list) l.index (map way_of (drop l.index l.ways))) answer
    → Decides (numbered (way_in l.walks l.list) 0 (map way_of l.ways)) answer
