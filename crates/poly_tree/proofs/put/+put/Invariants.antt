use Rattle.std.proofs.Common.{◌-◌, length, drop}
use Rattle.poly_tree.specs.Expansion.{IsPartsPut, nodes}
use Rattle.poly_tree.specs.Tree.{expansion, parts_of}
use Rattle.poly_tree.proofs.put.+put.Given as goal

abbrev pub invariant-loop-done : goal.invariant-loop-done
invariant-loop-done l = IsPartsPut l.var (expansion l.inner) l.v (parts_of (drop (length l.parts - l.done) l.parts)) (expansion l.total)

abbrev pub decreases-put : goal.decreases-put
decreases-put l = nodes (expansion l.tree.now)
