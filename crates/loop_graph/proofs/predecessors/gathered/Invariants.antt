use Rattle.std.proofs.Common.{◌+◌, ◌≤◌, List, length}
use Rattle.std.specs.Prelude.{ℤ}
use Rattle.affine_program.specs.Parts.{meaning}
use Rattle.loop_graph.specs.Found.{AreListed}
use Rattle.loop_graph.specs.declared.limits.TheConstants.{VERTICES}
use Rattle.loop_graph.proofs.Marked.{IsMarked}
use Rattle.loop_graph.proofs.Scanned.{IsScanned}
use Rattle.loop_graph.proofs.predecessors.gathered.Given as goal

abbrev pub invariant-loop-place : goal.invariant-loop-place
invariant-loop-place l = record {
  few : length l.runs + l.known.inputs ≤ VERTICES;
  scanned : (parameters : List ℤ) → AreListed (meaning l.program) parameters l.runs → IsScanned (meaning l.program) parameters l.place l.known l.preds.items;
  marked : (parameters : List ℤ) → AreListed (meaning l.program) parameters l.runs → IsMarked (meaning l.program) parameters l.place l.last.items;
}
