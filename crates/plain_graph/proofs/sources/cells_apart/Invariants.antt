use Rattle.std.proofs.Common.{◌≡◌, ◌++◌, map, drop, filter, not}
use Rattle.iolb_model.specs.Source.{same_cell}
use Rattle.plain_graph.specs.Views.{cell_view}
use Rattle.plain_graph.proofs.sources.cells_apart.Given as goal

abbrev pub invariant-loop-other : goal.invariant-loop-other
invariant-loop-other l = map cell_view l.apart.items ++ filter (λ other. not (same_cell (cell_view l.cell) other)) (map cell_view (drop l.other-index l.cells))
    ≡ filter (λ other. not (same_cell (cell_view l.cell) other)) (map cell_view l.cells)
