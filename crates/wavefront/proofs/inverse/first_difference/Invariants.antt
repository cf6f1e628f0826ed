use Rattle.std.proofs.Common.{ℕ, ◌<◌, take, drop, ◌*◌}
use Rattle.wavefront.specs.Columns.{AgreesBelow}
use Rattle.wavefront.proofs.inverse.first_difference.Given as goal

abbrev pub invariant-loop-row : goal.invariant-loop-row
invariant-loop-row l = (r : ℕ) → r < l.row → AgreesBelow l.scale (take l.matrix.columns (drop (r * l.matrix.columns) l.matrix.cells)) l.forms l.parameters r l.size
