use Rattle.std.proofs.Common.{◌≡◌, ◌≤◌, map, []}
use Rattle.iolb_model.specs.Source.{last_write_before}
use Rattle.plain_graph.specs.Views.{cell_view, instance_of, program_with}
use Rattle.plain_graph.proofs.sources.last_writer_before.Given as goal

pub record Kept (l : goal.Live-loop-k) : Type 0 where
  pub within : l.k ≤ l.place
  pub same : last_write_before (program_with l.statements []) l.parameters (map instance_of l.runs) (cell_view l.cell) l.k
      ≡ last_write_before (program_with l.statements []) l.parameters (map instance_of l.runs) (cell_view l.cell) l.place

abbrev pub invariant-loop-k : goal.invariant-loop-k
invariant-loop-k l = Kept l
