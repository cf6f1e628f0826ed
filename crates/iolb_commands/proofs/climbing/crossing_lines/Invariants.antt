use Rattle.std.proofs.Common.{◌≡◌, ◌+◌, ◌++◌, drop}
use Rattle.iolb_commands.specs.Values.{crossing_lines}
use Rattle.iolb_commands.proofs.climbing.crossing_lines.Given as goal

abbrev pub invariant-loop-place : goal.invariant-loop-place
invariant-loop-place l = l.text.items ++ crossing_lines (l.place + 1) (drop l.place l.crossed) ≡ crossing_lines 1 l.crossed
