use Rattle.std.proofs.Common.{◌≡◌, ◌++◌, drop, map}
use Rattle.certificate_parts.specs.Matrices.{all_entries, row_items}
use Rattle.certificate_parts.proofs.matrices.joined.Given as goal

abbrev pub invariant-loop-row : goal.invariant-loop-row
invariant-loop-row l = l.cells.items ++ all_entries (map row_items (drop l.row-index l.rows)) ≡ all_entries (map row_items l.rows)
