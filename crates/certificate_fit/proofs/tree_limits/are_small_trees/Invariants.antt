use Rattle.std.proofs.Common.{drop}
use Rattle.std.specs.Prelude.{◌↔◌}
use Rattle.std.specs.List.{AllByRecursion}
use Rattle.dep_quast.specs.declared.quast.Quast.{Quast}
use Rattle.dep_quast.specs.Tree.{tree_of}
use Rattle.certificate_fit.specs.Limits.{IsSmallTree}
use Rattle.certificate_fit.proofs.tree_limits.are_small_trees.Given as goal

abbrev pub invariant-loop-quast : goal.invariant-loop-quast
invariant-loop-quast l = AllByRecursion (λ (quast : Quast). IsSmallTree (tree_of quast)) (drop l.quast-index l.row) ↔ AllByRecursion (λ (quast : Quast). IsSmallTree (tree_of quast)) l.row
