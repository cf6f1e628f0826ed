use Rattle.std.proofs.Common.{◌≡◌, ◌++◌, map, drop, []}
use Rattle.std.specs.Prelude.{flat_map}
use Rattle.iolb_model.specs.Source.{sources_of}
use Rattle.iolb_model.specs.Graph.{placed}
use Rattle.plain_graph.specs.Views.{instance_of, source_view, program_with}
use Rattle.plain_graph.proofs.graphs.all_sources.Given as goal

abbrev pub invariant-loop-place : goal.invariant-loop-place
invariant-loop-place l = map source_view l.all.items ++ flat_map (sources_of (program_with l.statements []) l.parameters (map instance_of l.runs)) (drop l.place (placed (map instance_of l.runs)))
    ≡ flat_map (sources_of (program_with l.statements []) l.parameters (map instance_of l.runs)) (placed (map instance_of l.runs))
