use Rattle.std.proofs.Common.{◌≡◌, ◌++◌, map}
use Rattle.iolb_model.specs.Execution.{at_value}
use Rattle.plain_graph.specs.Views.{instance_of}
use Rattle.plain_graph.proofs.runs.push_at_value.Given as goal

abbrev pub invariant-loop-instance : goal.invariant-loop-instance
invariant-loop-instance l = map instance_of l.runs.items ≡ map instance_of l.fn.runs.items ++ map (at_value l.value) (map instance_of l.yielded)
