use Rattle.std.proofs.Common.{◌≡◌, take}
use Rattle.poly_tree.specs.Expansion.{nodes}
use Rattle.poly_tree.specs.Tree.{expansion, expansions}
use Rattle.poly_tree.proofs.equal.+equal.Given as goal

abbrev pub invariant-loop-power : goal.invariant-loop-power
invariant-loop-power l = expansions (take l.power l.first) ≡ expansions (take l.power l.second)

abbrev pub decreases-equal : goal.decreases-equal
decreases-equal l = nodes (expansion l.a.now)
