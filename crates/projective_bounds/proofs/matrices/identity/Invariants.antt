use Rattle.std.proofs.Common.{◌≡◌}
use Rattle.std.specs.Prelude.{flat_map}
use Rattle.std.specs.List.{range_with_len}
use Rattle.projective_bounds.specs.Whole.{identity_row}
use Rattle.projective_bounds.proofs.matrices.identity.Given as goal

abbrev pub invariant-loop-row : goal.invariant-loop-row
invariant-loop-row l = l.cells.items ≡ flat_map (identity_row l.size) (range_with_len 0 l.row)
