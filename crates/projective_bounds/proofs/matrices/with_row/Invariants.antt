use Rattle.std.proofs.Common.{◌≡◌, ◌++◌, map}
use Rattle.std.specs.List.{range_with_len}
use Rattle.execution_laws.specs.Inverse.{scaled_entry}
use Rattle.projective_bounds.proofs.matrices.with_row.Given as goal

abbrev pub invariant-loop-column : goal.invariant-loop-column
invariant-loop-column l = l.all.items ≡ l.initial.all.items ++ map (scaled_entry 1 l.row) (range_with_len 0 l.column)
