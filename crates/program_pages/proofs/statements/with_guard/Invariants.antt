use Rattle.std.proofs.Common.{length, drop}
use Rattle.std.specs.List.{AllByRecursion}
use Rattle.iolb_model.specs.Program.{IsOver}
use Rattle.program_pages.proofs.statements.with_guard.Given as goal

abbrev pub invariant-loop-row : goal.invariant-loop-row
invariant-loop-row l = AllByRecursion (IsOver (length l.names)) (drop l.row-index l.rows)
