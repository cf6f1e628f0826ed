use Rattle.std.proofs.Common.{◌≡◌, ◌-◌}
use Rattle.projective_bounds.specs.Multipliers.{rows_taken}
use Rattle.projective_bounds.proofs.multipliers.rows_taken.Given as goal

abbrev pub invariant-loop-number : goal.invariant-loop-number
invariant-loop-number l = l.all.items ≡ rows_taken l.first (l.number - l.first)
