use Rattle.std.proofs.Common.{◌≡◌, map, take}
use Rattle.poly_tree.specs.Expansion.{scaled, nodes}
use Rattle.poly_tree.specs.Tree.{expansion}
use Rattle.poly_tree.proofs.scale.+scale.Given as goal

abbrev pub invariant-loop-part : goal.invariant-loop-part
invariant-loop-part l = map expansion l.multiples.items ≡ map (scaled l.fn.factor) (map expansion (take l.part-index l.parts))

abbrev pub decreases-scale : goal.decreases-scale
decreases-scale l = nodes (expansion l.tree.now)
