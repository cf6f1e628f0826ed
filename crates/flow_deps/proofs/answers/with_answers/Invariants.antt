use Rattle.std.proofs.Common.{◌≡◌, ◌++◌}
use Rattle.flow_deps.proofs.answers.with_answers.Given as goal

abbrev pub invariant-loop-shown : goal.invariant-loop-shown
invariant-loop-shown l = l.both.items ≡ l.fn.all.items ++ l.yielded
