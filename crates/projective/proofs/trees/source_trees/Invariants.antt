use Rattle.std.proofs.Common.{◌≡◌, ◌≤◌, length, map}
use Rattle.affine_program.specs.Parts.{meaning}
use Rattle.dep_quast.specs.Tree.{tree_of}
use Rattle.projective.specs.SourceTrees.{AreFromRead}
use Rattle.projective.proofs.trees.source_trees.Given as goal

abbrev pub invariant-loop-read : goal.invariant-loop-read
invariant-loop-read l = record {
  many : length (map tree_of l.row.items) ≡ l.read;
  within : l.read ≤ l.count;
  each : AreFromRead (meaning l.program) 0 (map tree_of l.row.items);
}
