use Rattle.std.proofs.Common.{◌≡◌, ◌++◌, ◌-◌}
use Rattle.iolb_model.specs.Execution.{falling}
use Rattle.plain_graph.proofs.runs.values_down.Given as goal

abbrev pub invariant-loop-k : goal.invariant-loop-k
invariant-loop-k l = l.values.items ++ falling l.value (l.count - l._k) ≡ falling l.first l.count
