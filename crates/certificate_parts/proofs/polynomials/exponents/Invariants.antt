use Rattle.std.proofs.Common.{◌≡◌, ◌≤◌, ◌+◌, map, drop, length}
use Rattle.std.specs.List.{AllByRecursion}
use Rattle.json_values.specs.View.{json_data}
use Rattle.json_parts.specs.Json.{each, reads_natural}
use Rattle.json_parts.proofs.Loop.{with_front}
use Rattle.certificate_parts.proofs.polynomials.exponents.Given as goal

abbrev pub invariant-loop-i : goal.invariant-loop-i
invariant-loop-i l = record {
  read : with_front l.exponents.items (each (reads_natural 0 8) (l.i + 1) (map json_data (drop l.i l.values))) ≡ each (reads_natural 0 8) 1 (map json_data l.values);
  low : AllByRecursion (λ e. e ≤ 8) l.exponents.items;
  all : length l.exponents.items ≡ l.i;
}
