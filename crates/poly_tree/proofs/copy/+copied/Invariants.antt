use Rattle.std.proofs.Common.{◌≡◌, map, take}
use Rattle.poly_tree.specs.Tree.{expansion}
use Rattle.poly_tree.proofs.copy.+copied.Given as goal

abbrev pub invariant-loop-part : goal.invariant-loop-part
invariant-loop-part l = map expansion l.copies.items ≡ map expansion (take l.part-index l.part-items)
