use Rattle.std.proofs.Common.{◌≡◌, map, take, []}
use Rattle.iolb_model.specs.Graph.{placed, is_last_writer}
use Rattle.plain_graph.specs.Views.{instance_of, program_with}
use Rattle.plain_graph.proofs.graphs.last_writers.Given as goal

abbrev pub invariant-loop-place : goal.invariant-loop-place
invariant-loop-place l = l.all.items ≡ map (is_last_writer (program_with l.statements []) l.parameters (map instance_of l.runs)) (take l.place (placed (map instance_of l.runs)))
