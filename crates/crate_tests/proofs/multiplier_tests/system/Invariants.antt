use Rattle.std.proofs.Common.{◌≡◌}
use Rattle.crate_tests.proofs.multiplier_tests.system.Given as goal

abbrev pub invariant-loop : goal.invariant-loop
invariant-loop l = l.system.vars ≡ 3
