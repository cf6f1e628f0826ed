use Rattle.std.proofs.Common.{◌≡◌, ◌≤◌, map, drop, length}
use Rattle.iolb_model.specs.Source.{same_cell}
use Rattle.iolb_model.specs.Graph.{distinct}
use Rattle.plain_graph.specs.Views.{cell_view}
use Rattle.plain_graph.proofs.sources.distinct_cells.Given as goal

pub record Kept (l : goal.Live-loop-k) : Type 0 where
  pub within : l.k ≤ length l.cells
  pub so_far : map cell_view l.found.items ≡ distinct same_cell (map cell_view (drop l.k l.cells))

abbrev pub invariant-loop-k : goal.invariant-loop-k
invariant-loop-k l = Kept l
