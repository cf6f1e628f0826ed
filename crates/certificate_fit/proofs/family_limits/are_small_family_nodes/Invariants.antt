use Rattle.std.proofs.Common.{drop, map}
use Rattle.std.specs.Prelude.{◌↔◌, option_map}
use Rattle.std.specs.List.{AllByRecursion}
use Rattle.reuse_paths.specs.Families.{boxed_node}
use Rattle.certificate_fit.specs.Limits.{IsSmallFamilyNode}
use Rattle.certificate_fit.proofs.family_limits.are_small_family_nodes.Given as goal

abbrev pub invariant-loop-node : goal.invariant-loop-node
invariant-loop-node l = AllByRecursion IsSmallFamilyNode (map (option_map boxed_node) (drop l.node-index l.nodes)) ↔ AllByRecursion IsSmallFamilyNode (map (option_map boxed_node) l.nodes)
