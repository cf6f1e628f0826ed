use Rattle.std.proofs.Common.{◌≡◌, ◌++◌, map, drop}
use Rattle.serde_json.specs.View.{view}
use Rattle.certificate_parts.specs.Multipliers.{weights_data}
use Rattle.certificate_parts.proofs.multipliers.push_weights.Given as goal

abbrev pub invariant-loop-row : goal.invariant-loop-row
invariant-loop-row l = map view l.items.items ++ weights_data (drop l.row-index l.weights) ≡ map view l.initial.items.items ++ weights_data l.weights
