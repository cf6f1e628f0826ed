use Rattle.std.proofs.Common.{◌≡◌, ◌++◌, ◌-◌, ◌*◌, length, map}
use Rattle.serde_json.specs.View.{view}
use Rattle.certificate_parts.specs.Matrices.{row_data, rows_of}
use Rattle.certificate_parts.proofs.matrices.write_rows.Given as goal

abbrev pub invariant-loop : goal.invariant-loop
invariant-loop l =
    (map view l.items.items ++ map row_data (rows_of (l.count - l.counter) l.columns l.rest) ≡ map row_data (rows_of l.count l.columns l.fn.cells))
    × (length l.rest ≡ (l.count - l.counter) * l.columns)
