use Rattle.std.proofs.Common.{◌≡◌, ◌≤◌, length, map}
use Rattle.affine_program.specs.Parts.{meaning}
use Rattle.dep_quast.specs.Tree.{tree_of}
use Rattle.find_terms.specs.Trees.{RowStands}
use Rattle.find_terms.proofs.trees.row.Given as goal

abbrev pub invariant-loop-read : goal.invariant-loop-read
invariant-loop-read l = record {
  many : length (map tree_of l.row.items) ≡ l.read;
  within : l.read ≤ l.count;
  stand : RowStands (meaning l.program) l.scope l.statement 0 (map tree_of l.row.items);
}
