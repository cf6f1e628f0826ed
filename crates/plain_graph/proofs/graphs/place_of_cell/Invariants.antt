use Rattle.std.proofs.Common.{◌≡◌, ◌+◌, map, drop}
use Rattle.std.specs.List.{position_or_len}
use Rattle.iolb_model.specs.Source.{same_cell}
use Rattle.plain_graph.specs.Views.{cell_view}
use Rattle.plain_graph.proofs.graphs.place_of_cell.Given as goal

abbrev pub invariant-loop-i : goal.invariant-loop-i
invariant-loop-i l = l.i + position_or_len (same_cell (cell_view l.cell)) (map cell_view (drop l.i l.cells)) ≡ position_or_len (same_cell (cell_view l.cell)) (map cell_view l.cells)
