use Rattle.std.proofs.Common.{◌≡◌, length}
use Rattle.affine_program.specs.Parts.{meaning}
use Rattle.domain_count.specs.Count.{AreShownBelow}
use Rattle.domain_count.proofs.making.ranges.Given as goal

abbrev pub invariant-loop-k : goal.invariant-loop-k
invariant-loop-k l = record {
  many : length l.shown.items ≡ l.k;
  shown : AreShownBelow (meaning l.program) l.bounds l.shown.items l.k;
}
