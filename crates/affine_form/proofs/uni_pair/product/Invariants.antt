use Rattle.std.proofs.Common.{◌≡◌, ◌≤◌, ◌+◌, ◌*◌, ◌^◌, ◌*ℤ◌}
use Rattle.std.specs.Prelude.{unsigned_abs}
use Rattle.affine_form.specs.Matrix.{entry}
use Rattle.affine_form.specs.UniPair.{sum_below}
use Rattle.affine_form.proofs.uni_pair.product.Given as goal

abbrev pub invariant-loop-k : goal.invariant-loop-k
invariant-loop-k l = record {
  so_far : l.sum ≡ sum_below l.k (λ k. entry l.left l.row k *ℤ entry l.right k l.col);
  small : unsigned_abs l.sum ≤ 0 + l.k * (2 ^ 32 * 2 ^ 32);
}
