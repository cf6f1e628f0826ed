use Rattle.std.proofs.Common.{drop, map}
use Rattle.std.specs.Prelude.{◌↔◌, option_map}
use Rattle.std.specs.List.{AllByRecursion}
use Rattle.reuse_paths.specs.Walks.{boxed_region}
use Rattle.certificate_fit.specs.Limits.{IsSmallNode}
use Rattle.certificate_fit.proofs.walk_limits.are_small_nodes.Given as goal

abbrev pub invariant-loop-node : goal.invariant-loop-node
invariant-loop-node l = AllByRecursion IsSmallNode (map (option_map boxed_region) (drop l.node-index l.nodes)) ↔ AllByRecursion IsSmallNode (map (option_map boxed_region) l.nodes)
