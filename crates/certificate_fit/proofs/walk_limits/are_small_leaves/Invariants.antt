use Rattle.std.proofs.Common.{drop, map}
use Rattle.std.specs.Prelude.{◌↔◌}
use Rattle.std.specs.List.{AllByRecursion}
use Rattle.reuse_paths.specs.LeafClaims.{claim_of}
use Rattle.certificate_fit.specs.Limits.{IsSmallEntry}
use Rattle.certificate_fit.proofs.walk_limits.are_small_leaves.Given as goal

abbrev pub invariant-loop-leaf : goal.invariant-loop-leaf
invariant-loop-leaf l = AllByRecursion IsSmallEntry (map claim_of (drop l.leaf-index l.leaves)) ↔ AllByRecursion IsSmallEntry (map claim_of l.leaves)
