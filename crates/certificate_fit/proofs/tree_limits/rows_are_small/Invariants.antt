use Rattle.std.proofs.Common.{Vec, Global, drop}
use Rattle.std.specs.Prelude.{◌↔◌}
use Rattle.std.specs.List.{AllByRecursion}
use Rattle.dep_quast.specs.declared.quast.Quast.{Quast}
use Rattle.dep_quast.specs.Tree.{tree_of}
use Rattle.certificate_fit.specs.Limits.{IsSmallTree}
use Rattle.certificate_fit.proofs.tree_limits.rows_are_small.Given as goal

abbrev pub invariant-loop-row : goal.invariant-loop-row
invariant-loop-row l = AllByRecursion (λ (row : Vec Quast Global). AllByRecursion (λ (quast : Quast). IsSmallTree (tree_of quast)) row.items) (drop l.row-index l.rows) ↔ AllByRecursion (λ (row : Vec Quast Global). AllByRecursion (λ (quast : Quast). IsSmallTree (tree_of quast)) row.items) l.rows
