use Rattle.std.proofs.Common.{◌≡◌, max, drop}
use Rattle.poly_tree.specs.Expansion.{parts_degree_in, nodes}
use Rattle.poly_tree.specs.Tree.{expansion, parts_of}
use Rattle.poly_tree.proofs.degrees.+degree_in.Given as goal

abbrev pub invariant-loop-part : goal.invariant-loop-part
invariant-loop-part l = max l.degree (parts_degree_in l.var (parts_of (drop l.part-index l.parts))) ≡ parts_degree_in l.var (parts_of l.parts)

abbrev pub decreases-degree_in : goal.decreases-degree_in
decreases-degree_in l = nodes (expansion l.tree.now)
