use Rattle.std.proofs.Common.{◌≡◌, ◌++◌, drop, filter, not, nat_eq}
use Rattle.plain_graph.proofs.graphs.vertices_apart.Given as goal

abbrev pub invariant-loop-other : goal.invariant-loop-other
invariant-loop-other l = l.apart.items ++ filter (λ other. not (nat_eq l.vertex other)) (drop l.other-index l.vertices) ≡ filter (λ other. not (nat_eq l.vertex other)) l.vertices
