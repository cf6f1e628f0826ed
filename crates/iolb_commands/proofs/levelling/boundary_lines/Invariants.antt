use Rattle.std.proofs.Common.{◌≡◌, ◌+◌, ◌++◌, drop}
use Rattle.iolb_commands.specs.Values.{boundary_lines}
use Rattle.iolb_commands.proofs.levelling.boundary_lines.Given as goal

abbrev pub invariant-loop-place : goal.invariant-loop-place
invariant-loop-place l = l.text.items ++ boundary_lines (l.place + 1) (drop l.place l.values) ≡ boundary_lines 1 l.values
