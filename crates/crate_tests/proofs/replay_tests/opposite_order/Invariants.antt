use Rattle.std.proofs.Common.{◌≡◌}
use Rattle.crate_tests.proofs.Orders.{falling}
use Rattle.crate_tests.proofs.replay_tests.opposite_order.Given as goal

abbrev pub invariant-loop-v : goal.invariant-loop-v
invariant-loop-v l = l.order.items ≡ falling l.v
