use Rattle.std.proofs.Common.{drop, map}
use Rattle.std.specs.Prelude.{Result, option_map}
use Rattle.claims.specs.Claims.{numbered, Decides}
use Rattle.claims.specs.declared.refused.Refused.{Refused}
use Rattle.joint_partition.specs.Term.{labels_of}
use Rattle.joint_partition.specs.View.{family_of}
use Rattle.reuse_paths.specs.WalkViews.{walk_of}
use Rattle.reuse_paths.specs.Walks.{boxed_region}
use Rattle.iolb_check.specs.JointFit.{labeled_fit}
use Rattle.iolb_check.proofs.fit_ways.all_regions_fit.Given as goal

abbrev pub invariant-loop-statement : goal.invariant-loop-statement
invariant-loop-statement l = (answer : Result (Unit {0}) Refused) → Decides (numbered (labeled_fit (walk_of l.walking) (labels_of (family_of l.family) l.way.labels) l.list) l.statement (map (option_map boxed_region) (drop l.statement l.regions))) answer
    → Decides (numbered (labeled_fit (walk_of l.walking) (labels_of (family_of l.family) l.way.labels) l.list) 0 (map (option_map boxed_region) l.regions)) answer
