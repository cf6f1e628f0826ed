use Rattle.std.proofs.Common.{◌-◌, length, drop}
use Rattle.poly_tree.specs.Expansion.{IsPartsProduct, nodes}
use Rattle.poly_tree.specs.Tree.{expansion, parts_of}
use Rattle.poly_tree.proofs.mul.+mul.Given as goal

abbrev pub invariant-loop-done : goal.invariant-loop-done
invariant-loop-done l = IsPartsProduct l.var (parts_of (drop (length l.parts - l.done) l.parts)) (expansion l.b) (expansion l.total)

abbrev pub decreases-mul : goal.decreases-mul
decreases-mul l = nodes (expansion l.a.now)
