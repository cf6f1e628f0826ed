use Rattle.std.proofs.Common.{◌≡◌, ◌-◌, min, length, drop}
use Rattle.poly_tree.specs.Expansion.{parts_size_at, at, nodes}
use Rattle.poly_tree.specs.Tree.{expansion, parts_of}
use Rattle.poly_tree.proofs.evaluate.+size_at.Given as goal
use Rattle.iolb_model.specs.declared.limits.TheConstants.{MEASURE}

abbrev pub invariant-loop-done : goal.invariant-loop-done
invariant-loop-done l = l.total ≡ min (parts_size_at (parts_of (drop (length l.parts - l.done) l.parts)) l.base (at l.point)) MEASURE

abbrev pub decreases-size_at : goal.decreases-size_at
decreases-size_at l = nodes (expansion l.tree.now)
