use Rattle.std.proofs.Common.{◌≡◌, ◌≤◌, drop, length, nat_eq}
use Rattle.iolb_model.specs.Graph.{distinct}
use Rattle.plain_graph.proofs.graphs.distinct_vertices.Given as goal

abbrev pub invariant-loop-k : goal.invariant-loop-k
invariant-loop-k l = record {
  within : l.k ≤ length l.vertices;
  so_far : l.found.items ≡ distinct nat_eq (drop l.k l.vertices);
}
