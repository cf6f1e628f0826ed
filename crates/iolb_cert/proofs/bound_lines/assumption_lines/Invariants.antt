use Rattle.std.proofs.Common.{◌≡◌, ◌++◌, drop}
use Rattle.std.specs.Prelude.{flat_map}
use Rattle.iolb_model.specs.Printed.{assumption_text}
use Rattle.iolb_cert.proofs.bound_lines.assumption_lines.Given as goal

abbrev pub invariant-loop-row : goal.invariant-loop-row
invariant-loop-row l = l.text.items ++ flat_map (assumption_text l.names) (drop l.row-index l.rows) ≡ flat_map (assumption_text l.names) l.rows
