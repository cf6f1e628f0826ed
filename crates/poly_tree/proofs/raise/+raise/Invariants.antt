use Rattle.std.proofs.Common.{◌≡◌, ℕ, ◌<◌, length}
use Rattle.poly_tree.specs.Expansion.{IsRaised, nodes}
use Rattle.poly_tree.specs.Tree.{expansion, part_at}
use Rattle.poly_tree.proofs.raise.+raise.Given as goal

abbrev pub invariant-loop-part : goal.invariant-loop-part
invariant-loop-part l = record {
  count : length l.raised.items ≡ l.part-index;
  parts : (k : ℕ) → k < l.part-index → IsRaised l.var (part_at l.parts k) (part_at l.raised.items k);
}

abbrev pub decreases-raise : goal.decreases-raise
decreases-raise l = nodes (expansion l.tree.now)
