use Rattle.std.proofs.Common.{take}
use Rattle.std.specs.List.{AllByRecursion}
use Rattle.affine_program.specs.Limits.{IsStatementWithinLimits}
use Rattle.affine_program.proofs.limits.all_within_limits.Given as goal

abbrev pub invariant-loop-statement : goal.invariant-loop-statement
invariant-loop-statement l = AllByRecursion IsStatementWithinLimits (take l.statement-index l.statements)
