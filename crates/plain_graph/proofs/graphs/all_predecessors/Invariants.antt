use Rattle.std.proofs.Common.{◌≡◌, map, take, []}
use Rattle.iolb_model.specs.Graph.{placed, predecessors_of}
use Rattle.plain_graph.specs.Views.{cell_view, instance_of, program_with}
use Rattle.plain_graph.proofs.graphs.all_predecessors.Given as goal

abbrev pub invariant-loop-place : goal.invariant-loop-place
invariant-loop-place l = map (λ vertices. vertices.items) l.all.items ≡ map (predecessors_of (program_with l.statements []) l.parameters (map instance_of l.runs) (map cell_view l.cells)) (take l.place (placed (map instance_of l.runs)))
