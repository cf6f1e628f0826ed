use Rattle.std.proofs.Common.{◌≡◌, ℕ, ◌+◌, ◌<◌, length}
use Rattle.poly_tree.specs.Expansion.{IsSum, nodes}
use Rattle.poly_tree.specs.Tree.{expansion, part_at}
use Rattle.poly_tree.proofs.sum.+sum_beside.Given as goal

abbrev pub invariant-loop-power : goal.invariant-loop-power
invariant-loop-power l = record {
  count : length l.parts.items ≡ l.power;
  sums : (k : ℕ) → k < l.power → IsSum (part_at l.first k) (part_at l.second k) (part_at l.parts.items k);
}

abbrev pub decreases-sum_beside : goal.decreases-sum_beside
decreases-sum_beside l = nodes (expansion l.a.now) + nodes (expansion l.b.now)
