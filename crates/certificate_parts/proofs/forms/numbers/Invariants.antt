use Rattle.std.proofs.Common.{◌≡◌, map, drop, length}
use Rattle.std.specs.List.{AllByRecursion}
use Rattle.affine_form.specs.Form.{IsSmall}
use Rattle.json_values.specs.View.{json_data}
use Rattle.json_parts.specs.Json.{each, reads_integer}
use Rattle.json_parts.proofs.Loop.{with_front}
use Rattle.certificate_parts.proofs.forms.numbers.Given as goal
use Rattle.iolb_model.specs.declared.limits.TheConstants.{NUMBER_SIZE}

abbrev pub invariant-loop-i : goal.invariant-loop-i
invariant-loop-i l = record {
  read : with_front l.numbers.items (each (reads_integer NUMBER_SIZE) l.i (map json_data (drop l.i l.values))) ≡ each (reads_integer NUMBER_SIZE) 0 (map json_data l.values);
  small : AllByRecursion (IsSmall NUMBER_SIZE) l.numbers.items;
  all : length l.numbers.items ≡ l.i;
}
