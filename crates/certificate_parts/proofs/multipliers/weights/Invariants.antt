use Rattle.std.proofs.Common.{◌≡◌, ◌≤◌, ◌-◌, ◌%◌, map, length}
use Rattle.std.specs.List.{AllByRecursion}
use Rattle.affine_form.specs.Multipliers.{IsWeight}
use Rattle.json_values.specs.View.{json_data}
use Rattle.certificate_parts.specs.Multipliers.{reads_weights}
use Rattle.certificate_parts.proofs.Weights.{left}
use Rattle.certificate_parts.proofs.multipliers.weights.Given as goal

abbrev pub invariant-loop-i : goal.invariant-loop-i
invariant-loop-i l = record {
  read : left l.weights.items l.values l.i ≡ reads_weights 2 (map json_data l.values);
  small : AllByRecursion IsWeight l.weights.items;
  even : l.i % 2 ≡ 0;
  within : l.i ≤ length l.values;
}

abbrev pub decreases-loop-i : goal.decreases-loop-i
decreases-loop-i l = length l.values - l.i
