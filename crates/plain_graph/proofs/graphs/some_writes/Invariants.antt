use Rattle.std.proofs.Common.{◌≡◌, map, drop, []}
use Rattle.std.specs.List.{list_any}
use Rattle.iolb_model.specs.Source.{same_cell, written_cell}
use Rattle.plain_graph.specs.Views.{cell_view, instance_of, program_with}
use Rattle.plain_graph.proofs.graphs.some_writes.Given as goal

abbrev pub invariant-loop-k : goal.invariant-loop-k
invariant-loop-k l = list_any (λ later. same_cell (written_cell (program_with l.statements []) l.parameters later) (cell_view l.cell)) (map instance_of (drop l.k l.runs))
    ≡ list_any (λ later. same_cell (written_cell (program_with l.statements []) l.parameters later) (cell_view l.cell)) (map instance_of (drop l.first l.runs))
