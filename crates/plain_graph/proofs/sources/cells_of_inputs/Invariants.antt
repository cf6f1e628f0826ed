use Rattle.std.proofs.Common.{◌≡◌, ◌++◌, map, drop}
use Rattle.std.specs.Prelude.{filter_map}
use Rattle.iolb_model.specs.Graph.{input_cell}
use Rattle.plain_graph.specs.Views.{cell_view, source_view}
use Rattle.plain_graph.proofs.sources.cells_of_inputs.Given as goal

abbrev pub invariant-loop-source : goal.invariant-loop-source
invariant-loop-source l = map cell_view l.cells.items ++ filter_map input_cell (map source_view (drop l.source-index l.sources)) ≡ filter_map input_cell (map source_view l.sources)
