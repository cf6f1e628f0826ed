use Rattle.std.proofs.Common.{◌≡◌, ◌++◌, map, drop}
use Rattle.serde_json.specs.View.{view}
use Rattle.json_parts.specs.Written.{whole}
use Rattle.certificate_parts.proofs.matrices.write_row.Given as goal

abbrev pub invariant-loop-entry : goal.invariant-loop-entry
invariant-loop-entry l =
    map view l.items.items ++ map whole (drop l.entry-index l.entries) ≡ map whole l.entries
