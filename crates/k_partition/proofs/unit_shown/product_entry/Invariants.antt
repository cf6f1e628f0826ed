use Rattle.std.proofs.Common.{◌≡◌, ◌≤◌, ◌+◌, ◌*◌, ◌+ℤ◌, [], drop, get_or}
use Rattle.std.specs.Prelude.{unsigned_abs}
use Rattle.iolb_model.specs.Form.{dot}
use Rattle.execution_laws.specs.Inverse.{column, product_entry}
use Rattle.reuse_paths.specs.MatrixRows.{matrix_rows}
use Rattle.k_partition.proofs.unit_shown.product_entry.Given as goal
use Rattle.iolb_model.specs.declared.limits.TheConstants.{NUMBER_SIZE}

abbrev pub invariant-loop-k : goal.invariant-loop-k
invariant-loop-k l = record {
  so_far : (l.sum +ℤ dot (drop l.k (get_or (matrix_rows l.first) l.row [])) (drop l.k (column l.col (matrix_rows l.second)))) ≡ product_entry (matrix_rows l.first) (matrix_rows l.second) l.row l.col;
  small : unsigned_abs l.sum ≤ 0 + l.k * (NUMBER_SIZE * NUMBER_SIZE);
}
