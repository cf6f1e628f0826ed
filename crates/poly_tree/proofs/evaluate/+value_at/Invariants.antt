use Rattle.std.proofs.Common.{◌≡◌, ◌-◌, length, drop}
use Rattle.poly_tree.specs.Expansion.{parts_value, at, nodes}
use Rattle.poly_tree.specs.Tree.{expansion, parts_of}
use Rattle.poly_tree.proofs.evaluate.+value_at.Given as goal

abbrev pub invariant-loop-done : goal.invariant-loop-done
invariant-loop-done l = l.total ≡ parts_value (parts_of (drop (length l.parts - l.done) l.parts)) (at l.point l.v) (at l.point)

abbrev pub decreases-value_at : goal.decreases-value_at
decreases-value_at l = nodes (expansion l.tree.now)
