use Rattle.std.proofs.Common.{◌≡◌, ◌≤◌, drop}
use Rattle.certificate_parts.specs.Multipliers.{rise_from}
use Rattle.certificate_parts.proofs.multipliers.rows_rise.Given as goal

abbrev pub invariant-loop-row : goal.invariant-loop-row
invariant-loop-row l = record {
  rise : rise_from l.least (drop l.row-index l.weights) ≡ rise_from 0 l.weights;
  least : l.least ≤ 256;
}
