use Rattle.std.proofs.Common.{◌≡◌, map, take}
use Rattle.poly_tree.specs.Expansion.{scaled, nodes}
use Rattle.poly_tree.specs.Tree.{expansion}
use Rattle.poly_tree.proofs.common_factor.+divided.Given as goal

abbrev pub invariant-loop-part : goal.invariant-loop-part
invariant-loop-part l = map (scaled l.fn.factor) (map expansion l.quotients.items) ≡ map expansion (take l.part-index l.parts)

abbrev pub decreases-divided : goal.decreases-divided
decreases-divided l = nodes (expansion l.tree.now)
