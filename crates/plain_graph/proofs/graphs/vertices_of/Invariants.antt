use Rattle.std.proofs.Common.{◌≡◌, map, take}
use Rattle.iolb_model.specs.Graph.{vertex_of}
use Rattle.plain_graph.specs.Views.{cell_view, source_view}
use Rattle.plain_graph.proofs.graphs.vertices_of.Given as goal

abbrev pub invariant-loop-source : goal.invariant-loop-source
invariant-loop-source l = l.vertices.items ≡ map (vertex_of l.instances (map cell_view l.cells)) (map source_view (take l.source-index l.sources))
