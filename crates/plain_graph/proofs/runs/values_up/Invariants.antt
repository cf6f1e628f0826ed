use Rattle.std.proofs.Common.{◌≡◌, ◌++◌, ◌-◌}
use Rattle.iolb_model.specs.Execution.{rising}
use Rattle.plain_graph.proofs.runs.values_up.Given as goal

abbrev pub invariant-loop-k : goal.invariant-loop-k
invariant-loop-k l = l.values.items ++ rising l.value (l.count - l._k) ≡ rising l.first l.count
