use Rattle.std.proofs.Common.{◌≡◌, ◌≤◌, length, map}
use Rattle.affine_program.specs.Parts.{meaning}
use Rattle.dep_quast.specs.Quasts.{row_trees}
use Rattle.find_terms.specs.Trees.{RowsStand}
use Rattle.find_terms.proofs.trees.source_trees.Given as goal

abbrev pub invariant-loop-statement : goal.invariant-loop-statement
invariant-loop-statement l = record {
  many : length (map row_trees l.rows.items) ≡ l.statement;
  within : l.statement ≤ length l.program.statements;
  stand : RowsStand (meaning l.program) l.scope 0 (map row_trees l.rows.items);
}
