use Rattle.std.proofs.Common.{take}
use Rattle.poly_tree.specs.Expansion.{IsPartsContent, nodes}
use Rattle.poly_tree.specs.Tree.{expansion, parts_of}
use Rattle.poly_tree.proofs.common_factor.+content.Given as goal

abbrev pub invariant-loop-part : goal.invariant-loop-part
invariant-loop-part l = IsPartsContent (parts_of (take l.part-index l.parts)) l.fn.start l.factor

abbrev pub decreases-content : goal.decreases-content
decreases-content l = nodes (expansion l.tree.now)
