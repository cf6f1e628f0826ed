use Rattle.std.proofs.Common.{◌≡◌, ◌++◌, map, drop}
use Rattle.serde_json.specs.View.{view}
use Rattle.json_parts.specs.Written.{whole}
use Rattle.certificate_parts.proofs.numbers.write_numbers.Given as goal

abbrev pub invariant-loop-number : goal.invariant-loop-number
invariant-loop-number l =
    map view l.items.items ++ map whole (drop l.number-index l.numbers) ≡ map whole l.numbers
