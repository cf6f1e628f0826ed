use Rattle.std.proofs.Common.{take}
use Rattle.poly_tree.specs.Expansion.{PartsDegreesAtMost, nodes}
use Rattle.poly_tree.specs.Tree.{expansion, parts_of}
use Rattle.poly_tree.proofs.degrees.+degrees_fit.Given as goal

abbrev pub invariant-loop-part : goal.invariant-loop-part
invariant-loop-part l = PartsDegreesAtMost 8 (parts_of (take l.part-index l.parts))

abbrev pub decreases-degrees_fit : goal.decreases-degrees_fit
decreases-degrees_fit l = nodes (expansion l.tree.now)
