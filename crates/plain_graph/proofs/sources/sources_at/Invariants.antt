use Rattle.std.proofs.Common.{◌≡◌, map, take, []}
use Rattle.iolb_model.specs.Source.{source_of}
use Rattle.plain_graph.specs.Views.{cell_view, instance_of, source_view, program_with}
use Rattle.plain_graph.proofs.sources.sources_at.Given as goal

abbrev pub invariant-loop-cell : goal.invariant-loop-cell
invariant-loop-cell l = map source_view l.sources.items ≡ map (source_of (program_with l.statements []) l.parameters (map instance_of l.runs) l.place) (map cell_view (take l.cell-index l.cell-items))
