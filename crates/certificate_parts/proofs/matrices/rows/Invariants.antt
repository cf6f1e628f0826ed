use Rattle.std.proofs.Common.{◌≡◌, map, drop}
use Rattle.std.specs.List.{AllByRecursion}
use Rattle.certificate_parts.specs.Matrices.{reads_row, row_items, IsRow}
use Rattle.json_values.specs.View.{json_data}
use Rattle.json_parts.specs.Json.{each}
use Rattle.json_parts.proofs.Loop.{with_front}
use Rattle.certificate_parts.proofs.matrices.rows.Given as goal

abbrev pub invariant-loop-i : goal.invariant-loop-i
invariant-loop-i l = record {
  read : with_front (map row_items l.rows.items) (each (reads_row l.columns) l.i (map json_data (drop l.i l.values))) ≡ each (reads_row l.columns) 0 (map json_data l.values);
  shape : AllByRecursion (IsRow l.columns) l.rows.items;
}
